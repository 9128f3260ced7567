use Rattle.std.proofs.Common.{length}
use Rattle.l2_node.proofs.moving.abandon_all.Given as goal

abbrev pub invariant-loop-one : goal.invariant-loop-one
invariant-loop-one l = Unit {0}

abbrev pub decreases-loop-one : goal.decreases-loop-one
decreases-loop-one l = length l.packages.items
