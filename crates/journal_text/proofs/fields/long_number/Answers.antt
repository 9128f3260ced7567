use Rattle.std.proofs.Common.{rules}
use Rattle.journal_text.proofs.Numbers.{long_large}
use Rattle.journal_text.proofs.fields.long_number.Goals as goal

pub returns-in-Some-clause-text : goal.returns-in-Some-clause-text
returns-in-Some-clause-text c =
    let small = c.in-Some.ensures.1 in
    ((long_large c.in-Some.number c.args.text.now (search rules) c.in-Some.ensures.0 small).1, small)
