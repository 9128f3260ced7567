use Rattle.std.proofs.Common.{◌<◌, length, arith}
use Rattle.journal_text.proofs.Octets.{octets_told, octets_refused, octets_exact}
use Rattle.journal_text.proofs.fields.octets.Goals as goal

pub returns-then-not-branch-clause-value : goal.returns-then-not-branch-clause-value
returns-then-not-branch-clause-value c =
    let some : 0 < length c.args.text.now = grind (arith, c.if-is_empty.false, c.is_empty.ensures) in
    octets_refused c.args.text.now _ _ some
    (c.in_ok-read_lower_hex.ensures.lower, c.in_ok-read_lower_hex.ensures.capital) c.if-not-branch.true

pub returns-clause-value : goal.returns-clause-value
returns-clause-value c =
    let some : 0 < length c.args.text.now = grind (arith, c.if-is_empty.false, c.is_empty.ensures) in
    octets_told c.args.text.now _ _ some
    (c.in_ok-read_lower_hex.ensures.lower, c.in_ok-read_lower_hex.ensures.capital) c.if-not-branch.false

pub returns-clause-text : goal.returns-clause-text
returns-clause-text c =
    let some : 0 < length c.args.text.now = grind (arith, c.if-is_empty.false, c.is_empty.ensures) in
    octets_exact c.args.text.now _ _ some
    (c.in_ok-read_lower_hex.ensures.lower, c.in_ok-read_lower_hex.ensures.capital) c.if-not-branch.false
