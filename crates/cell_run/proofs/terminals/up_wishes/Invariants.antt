use Rattle.std.proofs.Common.{◌≡◌, ◌-◌, take}
use Rattle.cell_run.specs.Terminals.{up_wish}
use Rattle.cell_run.proofs.Wishing.{wishes_of}
use Rattle.cell_run.proofs.terminals.up_wishes.Given as goal

abbrev pub invariant-loop-at : goal.invariant-loop-at
invariant-loop-at l = l.wishes ≡ wishes_of up_wish (take l.at l.terminals) (8 - l.at)
