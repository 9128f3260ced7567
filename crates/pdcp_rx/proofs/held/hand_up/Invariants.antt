use Rattle.std.proofs.Common.{◌≡◌, ◌++◌, ◌≤◌, length, drop, take}
use Rattle.pdcp_rx.specs.Held.{present}
use Rattle.pdcp_rx.proofs.held.hand_up.Given as goal

abbrev pub invariant-loop-left : goal.invariant-loop-left
invariant-loop-left l = record {
  within : l.left ≤ length l.held.items;
  held : drop l.left l.held.items ≡ drop l.fn.count l.fn.held.items;
  ready : l.ready ++ present (take l.left l.held.items) ≡ l.fn.ready ++ present (take l.fn.count l.fn.held.items);
  len : length l.held.items ≤ length l.fn.held.items;
}

abbrev pub decreases-loop-left : goal.decreases-loop-left
decreases-loop-left l = l.left
