use Rattle.std.proofs.Common.{ap, ◌∙◌}
use Rattle.mac_pdu.specs.Writing.{length_field}
use Rattle.std.proofs.Common.{length, ℕ, List}
use Rattle.mac_pdu.proofs.Spell.{saved_is}
use Rattle.mac_pdu.proofs.sizes.saved_len.Goals as goal

pub returns-in-Some : goal.returns-in-Some
returns-in-Some c =
    saved_is c.args.sdus.now c.in-Some.field-0-1.now c.in-Some.last.now c.length_len.result c.in-Some.ensures.cases.0
    (c.length_len.ensures ∙ ap (λ (octets : List ℕ). length (length_field (length octets))) c.as_slice.ensures)
