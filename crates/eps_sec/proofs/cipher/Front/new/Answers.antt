use Rattle.std.proofs.Common.{◌∙◌, refl, arith}
use Rattle.eps_sec.proofs.FrontLemmas.{prepared}
use Rattle.eps_sec.proofs.WordLemmas.{column_of, four}
use Rattle.eps_sec.proofs.cipher.Front.new.Goals as goal

pub returns : goal.returns
returns c =
    prepared c.args.schedule.now _ c.args.block.now c.add_key.result c.mixed_round.result c.add_key-2.result
    c.mixed_round-2.result c.from_be_bytes-d.result c.from_be_bytes-nothing.result
    (rw c.schedule.view_is at c.add_key.ensures)
    (column_of _ _ _ _ _ c.row_0.type_inv c.row_1.type_inv c.row_2.type_inv (omega arith) c.from_be_bytes-d.ensures
    ∙ four _ _ _ _ _ _ _ _ c.row_0.ensures c.row_1.ensures c.row_2.ensures refl)
    c.mixed_round.ensures
    (rw c.schedule.view_is at (c.schedule.invariant 1 (omega arith)))
    c.add_key-2.ensures
    c.from_be_bytes-nothing.ensures
    c.mixed_round-2.ensures
