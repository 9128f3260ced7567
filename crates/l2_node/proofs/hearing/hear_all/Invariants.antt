use Rattle.std.proofs.Common.{◌≡◌, length}
use Rattle.l2_node.specs.Hearing.{hears_all, heard}
use Rattle.l2_node.proofs.hearing.hear_all.Given as goal

abbrev pub invariant-loop-item : goal.invariant-loop-item
invariant-loop-item l = hears_all l.reader (heard l.bearers.items l.events)
    ≡ hears_all l.fn.reader (heard l.initial.bearers.items l.initial.events)

abbrev pub decreases-loop-item : goal.decreases-loop-item
decreases-loop-item l = length l.reader
