use Rattle.std.proofs.Common.{◌≡◌, arith}
use Rattle.mac_pdu.specs.Writing.{Parts, full_size, items_of}
use Rattle.mac_pdu.proofs.Spell.{size_is, saved_short}
use Rattle.mac_pdu.proofs.builder.MacBuilder.full.Goals as goal

pub full_len-requires-clause-fits : goal.full_len-requires-clause-fits
full_len-requires-clause-fits c =
    let i = c.self.inside in
    let b : Parts = record { direction = i.direction; controls = i.controls.items; sdus = i.sdus.items } in
    rw (c.deref.ensures.value, c.deref-2.ensures.value)
    (omega (arith, size_is b c.self.invariant, saved_short i.sdus.items, c.self.invariant.short))

pub overflow_cast-result : goal.overflow_cast-result
overflow_cast-result c =
    let i = c.self.inside in
    let b : Parts = record { direction = i.direction; controls = i.controls.items; sdus = i.sdus.items } in
    let f : c.full_len.result ≡ full_size (items_of b) =
    rw (c.deref.ensures.value, c.deref-2.ensures.value) at c.full_len.ensures in
    omega (arith, f, size_is b c.self.invariant, saved_short i.sdus.items, c.self.invariant.short)

pub returns : goal.returns
returns c =
    let i = c.self.inside in
    let b : Parts = record { direction = i.direction; controls = i.controls.items; sdus = i.sdus.items } in
    let f : c.full_len.result ≡ full_size (items_of b) =
    rw (c.deref.ensures.value, c.deref-2.ensures.value) at c.full_len.ensures in
    let s = size_is b c.self.invariant in
    rw (← c.self.view_is) (record {
      size = f;
      saved = omega (arith, f, s);
      bound = omega (arith, f, s, saved_short i.sdus.items);
    })
