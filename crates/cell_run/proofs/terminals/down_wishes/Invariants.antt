use Rattle.std.proofs.Common.{◌≡◌, ◌-◌, take}
use Rattle.cell_run.specs.Terminals.{down_wish}
use Rattle.cell_run.proofs.Wishing.{wishes_of}
use Rattle.cell_run.proofs.terminals.down_wishes.Given as goal

abbrev pub invariant-loop-at : goal.invariant-loop-at
invariant-loop-at l = l.wishes ≡ wishes_of down_wish (take l.at l.terminals) (8 - l.at)
