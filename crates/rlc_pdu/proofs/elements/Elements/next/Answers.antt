use Rattle.std.proofs.Common.{sym, arith}
use Rattle.std.proofs.lemmas.List.{length-drop}
use Rattle.rlc_pdu.proofs.Steps.{next_is, last_is, cut_off, some_len}
use Rattle.rlc_pdu.specs.Units.{Unit as Extension}
use Rattle.rlc_pdu.proofs.elements.Elements.next.Goals as goal

pub returns-then-not-self-clause-element : goal.returns-then-not-self-clause-element
returns-then-not-self-clause-element c =
    let e = c.args.self.now in
    rw c.if-not-self.true
    (last_is e.odd e.units.now e.field.now (some_len _ c.if-is_empty.ensures) (rw c.if-not-self.true at e.sound))

pub returns-in_default-clause-element : goal.returns-in_default-clause-element
returns-in_default-clause-element c =
    let e = c.args.self.now in
    let none = cut_off e.odd e.units.now e.field.now (some_len _ c.if-is_empty.ensures)
    (sym c.in_default.ensures.read) in
    rw c.if-not-self.false (none, none)

pub split_at-requires : goal.split_at-requires
split_at-requires c =
    let e = c.args.self.now in
    let a = c.in-Some in
    let u : Extension = record { len = a.len; more = a.more; rest = a.units.now } in
    let n = next_is e.odd e.units.now e.field.now u (sym a.ensures.read) (some_len _ c.if-is_empty.ensures)
    (rw c.if-not-self.false at e.sound) in
    omega (arith, n.within)

pub invariant_of-self-2 : goal.invariant_of-self-2
invariant_of-self-2 c =
    let e = c.args.self.now in
    let a = c.in-Some in
    let u : Extension = record { len = a.len; more = a.more; rest = a.units.now } in
    let n = next_is e.odd e.units.now e.field.now u (sym a.ensures.read) (some_len _ c.if-is_empty.ensures)
    (rw c.if-not-self.false at e.sound) in
    record {
      sound = rw c.split_at.ensures.back n.sound;
      short = rw c.split_at.ensures.back (omega (arith, length-drop a.len e.field.now, e.short));
    }

pub returns-clause-element : goal.returns-clause-element
returns-clause-element c =
    let e = c.args.self.now in
    let a = c.in-Some in
    let u : Extension = record { len = a.len; more = a.more; rest = a.units.now } in
    let n = next_is e.odd e.units.now e.field.now u (sym a.ensures.read) (some_len _ c.if-is_empty.ensures)
    (rw c.if-not-self.false at e.sound) in
    rw (c.if-not-self.false, c.split_at.ensures.front, c.split_at.ensures.back) n.found
