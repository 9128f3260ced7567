use Rattle.std.proofs.Common.{◌≡◌, ◌++◌}
use Rattle.std.specs.Vec.Iter.{into_iter_items}
use Rattle.l2_node.specs.Moving.{all_stopped, all_stopping}
use Rattle.l2_node.proofs.moving.stop_all.Given as goal

abbrev pub invariant-loop-bearer : goal.invariant-loop-bearer
invariant-loop-bearer l = record {
  packages : l.packages.items ++ all_stopped (into_iter_items l.bearer-iterator)
      ≡ l.initial.packages.items ++ all_stopped l.fn.bearers.items;
  events : l.events ++ all_stopping (into_iter_items l.bearer-iterator)
      ≡ l.initial.events ++ all_stopping l.fn.bearers.items;
}
