use Rattle.eps_sec.proofs.WordLemmas.{mixed_is}
use Rattle.eps_sec.proofs.cipher.mixed.Goals as goal

pub returns : goal.returns
returns c =
    mixed_is _ _ _ _ _ _ _ _
    (rw c.row_0.ensures at c.from_row_0.ensures)
    (rw c.row_1.ensures at c.from_row_1.ensures)
    (rw c.row_2.ensures at c.from_row_2.ensures)
    (rw c.row_3.ensures at c.from_row_3.ensures)
