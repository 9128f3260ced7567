use Rattle.std.proofs.Common.{◌≡◌, ◌≤◌, ◌+◌, ◌-◌, drop, length}
use Rattle.l2_node.specs.Finding.{place}
use Rattle.l2_node.proofs.finding.place_of.Given as goal

abbrev pub invariant-loop-at : goal.invariant-loop-at
invariant-loop-at l = record {
  place : l.at + place l.lcid (drop l.at l.bearers) ≡ place l.lcid l.bearers;
  within : l.at ≤ length l.bearers;
}

abbrev pub decreases-loop-at : goal.decreases-loop-at
decreases-loop-at l = length l.bearers - l.at
