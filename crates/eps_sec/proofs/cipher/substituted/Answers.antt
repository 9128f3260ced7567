use Rattle.std.proofs.Common.{◌∙◌, ap}
use Rattle.eps_sec.specs.Field.{sub_byte}
use Rattle.eps_sec.proofs.WordLemmas.{column_of, four}
use Rattle.eps_sec.proofs.cipher.substituted.Goals as goal

pub returns : goal.returns
returns c =
    column_of _ _ _ _ _ c.sub_byte.type_inv c.sub_byte-2.type_inv c.sub_byte-3.type_inv c.sub_byte-4.type_inv
    c.from_be_bytes.ensures
    ∙ four _ _ _ _ _ _ _ _
    (c.sub_byte.ensures ∙ ap sub_byte c.row_0.ensures)
    (c.sub_byte-2.ensures ∙ ap sub_byte c.row_1.ensures)
    (c.sub_byte-3.ensures ∙ ap sub_byte c.row_2.ensures)
    (c.sub_byte-4.ensures ∙ ap sub_byte c.row_3.ensures)
