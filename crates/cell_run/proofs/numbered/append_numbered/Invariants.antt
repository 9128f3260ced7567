use Rattle.std.proofs.Common.{◌≡◌, ◌++◌, length}
use Rattle.cell_run.specs.Entries.{numbered}
use Rattle.cell_run.proofs.numbered.append_numbered.Given as goal

abbrev pub invariant-loop-at : goal.invariant-loop-at
invariant-loop-at l = l.out ++ numbered l.user l.rest ≡ l.initial.out ++ numbered l.user l.fn.text

abbrev pub decreases-loop-at : goal.decreases-loop-at
decreases-loop-at l = length l.rest
