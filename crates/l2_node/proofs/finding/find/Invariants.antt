use Rattle.std.proofs.Common.{◌≡◌, ◌≤◌, ◌+◌, ◌-◌, drop, length}
use Rattle.l2_node.specs.Finding.{find}
use Rattle.l2_node.proofs.finding.find.Given as goal

abbrev pub invariant-loop-at : goal.invariant-loop-at
invariant-loop-at l = record {
  find : l.at + find l.lcid (drop l.at l.bearers) ≡ find l.lcid l.bearers;
  within : l.at ≤ length l.bearers;
}

abbrev pub decreases-loop-at : goal.decreases-loop-at
decreases-loop-at l = length l.bearers - l.at
