use Rattle.std.proofs.Common.{◌≡◌, drop}
use Rattle.l2_node.specs.Sums.{all_left}
use Rattle.l2_node.proofs.submitting.left_of.Given as goal

abbrev pub invariant-loop-bearer : goal.invariant-loop-bearer
invariant-loop-bearer l = all_left (drop l.bearer-index l.bearers) l.sum ≡ all_left l.bearers 0
