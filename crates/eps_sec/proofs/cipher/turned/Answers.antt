use Rattle.std.proofs.Common.{◌∙◌, ap, arith}
use Rattle.std.proofs.lemmas.Nat.{xor_of_8}
use Rattle.eps_sec.specs.Field.{sub_byte}
use Rattle.eps_sec.proofs.WordLemmas.{column_of, turned_is}
use Rattle.eps_sec.proofs.cipher.turned.Goals as goal

pub returns : goal.returns
returns c =
    turned_is _ c.args.power _ _ _ _ _ _ _ _
    (column_of _ _ _ _ _ (xor_of_8 c.sub_byte.result c.args.power c.sub_byte.type_inv (omega arith))
    c.sub_byte-2.type_inv c.sub_byte-3.type_inv c.sub_byte-4.type_inv c.from_be_bytes.ensures)
    (c.sub_byte.ensures ∙ ap sub_byte c.row_1.ensures)
    (c.sub_byte-2.ensures ∙ ap sub_byte c.row_2.ensures)
    (c.sub_byte-3.ensures ∙ ap sub_byte c.row_3.ensures)
    (c.sub_byte-4.ensures ∙ ap sub_byte c.row_0.ensures)
