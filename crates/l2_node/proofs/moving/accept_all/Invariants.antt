use Rattle.std.proofs.Common.{◌≡◌, ◌++◌, length}
use Rattle.l2_node.specs.Moving.{all_restarted, with_channels}
use Rattle.l2_node.proofs.moving.accept_all.Given as goal

abbrev pub invariant-loop-one : goal.invariant-loop-one
invariant-loop-one l = record {
  bearers : l.bearers.items ++ all_restarted l.packages.items l.keys
      ≡ l.initial.bearers.items ++ all_restarted l.initial.packages.items l.keys;
  buckets : with_channels l.packages.items l.buckets ≡ with_channels l.initial.packages.items l.initial.buckets;
}

abbrev pub decreases-loop-one : goal.decreases-loop-one
decreases-loop-one l = length l.packages.items
