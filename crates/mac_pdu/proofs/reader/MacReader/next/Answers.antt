use Rattle.std.proofs.Common.{◌≡◌, take, length, sym, ◌∙◌, arith}
use Rattle.std.proofs.lemmas.List.{length-drop, length-take}
use Rattle.mac_pdu.specs.Subheaders.{payload_len}
use Rattle.mac_pdu.specs.Views.{item_in}
use Rattle.mac_pdu.proofs.Steps.{step, step_is, nothing, payload_again}
use Rattle.mac_pdu.proofs.reader.MacReader.next.Goals as goal

pub returns-in_err-one-clause-item : goal.returns-in_err-one-clause-item
returns-in_err-one-clause-item c =
    let i = c.self.inside in
    let none = sym c.self.view_is ∙ nothing i.direction i.headers.now i.payloads.now (sym c.in_err-one.ensures.read) in
    rw c.from_residual.ensures (none, none)

pub split_at-requires : goal.split_at-requires
split_at-requires c =
    let i = c.self.inside in
    let s = step i.direction i.headers.now i.payloads.now c.in_ok-one.one (sym c.in_ok-one.ensures.read)
    c.self.invariant.0 in
    rw c.payload_size-n.ensures s.within

pub item-requires-clause-whole : goal.item-requires-clause-whole
item-requires-clause-whole c =
    let i = c.self.inside in
    let s = step i.direction i.headers.now i.payloads.now c.in_ok-one.one (sym c.in_ok-one.ensures.read)
    c.self.invariant.0 in
    let n = payload_len c.in_ok-one.one (length i.payloads.now) in
    let len : length (take n i.payloads.now) ≡ n = omega (arith, length-take n i.payloads.now, s.within) in
    rw (c.split_at.ensures.front, c.payload_size-n.ensures, len)
    (sym (payload_again c.in_ok-one.one (length i.payloads.now)))

pub invariant_of-self : goal.invariant_of-self
invariant_of-self c =
    let i = c.self.inside in
    let s = step i.direction i.headers.now i.payloads.now c.in_ok-one.one (sym c.in_ok-one.ensures.read)
    c.self.invariant.0 in
    rw (c.headers_behind-self-inside.ensures, c.split_at.ensures.back, c.payload_size-n.ensures) (
      s.rest,
      omega (
        arith,
        length-drop (payload_len c.in_ok-one.one (length i.payloads.now)) i.payloads.now,
        c.self.invariant.1,
      ),
    )

pub returns-clause-item : goal.returns-clause-item
returns-clause-item c =
    let i = c.self.inside in
    let s = step i.direction i.headers.now i.payloads.now c.in_ok-one.one (sym c.in_ok-one.ensures.read)
    c.self.invariant.0 in
    sym c.self.view_is ∙ step_is i.direction i.headers.now i.payloads.now c.in_ok-one.one c.payload_size-n.result
    c.split_at.result.0.now c.split_at.result.1.now
    c.headers_behind-self-inside.result.now (item_in c.item.result) s c.payload_size-n.ensures
    c.split_at.ensures.front c.split_at.ensures.back
    c.headers_behind-self-inside.ensures c.item.ensures.item
