use Rattle.std.proofs.Common.{rules}
use Rattle.journal_text.proofs.Octets.{array_exact}
use Rattle.journal_text.proofs.fields.array.Goals as goal

pub returns-in-Ok-clause-text : goal.returns-in-Ok-clause-text
returns-in-Ok-clause-text g c =
    array_exact g.row.N _ c.args.text.now _ _ (search rules) (search rules) c.decode_to_slice.ensures.value
    (search rules)
