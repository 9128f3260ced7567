use Rattle.std.proofs.Common.{ap, sym, ◌∙◌, false}
use Rattle.std.specs.Prelude.{option_map}
use Rattle.journal_form.proofs.CanonicalBlocks.{tested, passes}
use Rattle.journal_form.proofs.canonical.is_canonical.Goals as goal

pub returns-in_default-2 : goal.returns-in_default-2
returns-in_default-2 c =
    let items = c.in-Ok.reader in
    let pdu = c.in-Ok.ensures.items in
    tested c.args.direction items items c.args.octets.now (option_map (λ x. x.now) c.in_ok-body.field-0) false
    c.requires pdu c.in-Ok.ensures.exact pdu c.in_ok-body.ensures.short c.in_ok-body.ensures.found
    (sym (ap (λ found. passes items (option_map (λ x. x.now) found)) c.in_default-2.is))

pub returns : goal.returns
returns c =
    let others = c.in-Ok-parse.reader in
    tested c.args.direction c.in-Ok.reader others c.args.octets.now (option_map (λ x. x.now) c.in_ok-body.field-0)
    c.are_clear.result c.requires c.in-Ok.ensures.items c.in-Ok.ensures.exact c.in-Ok-parse.ensures.items
    c.in_ok-body.ensures.short c.in_ok-body.ensures.found
    (c.are_clear.ensures ∙ sym (ap (λ found. passes others (option_map (λ x. x.now) found)) c.in-Some.is))
