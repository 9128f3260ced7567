use Rattle.std.proofs.Common.{◌≡◌, ◌+◌, ◌≤◌, length, drop, take}
use Rattle.rlc_um.specs.Joined.{with_numbers}
use Rattle.rlc_um.proofs.window.pass_on.Given as goal

abbrev pub invariant-loop-left : goal.invariant-loop-left
invariant-loop-left l = record {
  sum : l.edge + length l.ring.items ≡ l.fn.edge + length l.fn.ring.items;
  count : l.edge + l.left ≡ l.fn.edge + l.count;
  capacity : l.ring.capacity ≡ l.fn.ring.capacity;
  shorter : length l.ring.items ≤ length l.fn.ring.items;
  fewer : l.left ≤ length l.ring.items;
  slots : drop l.left l.ring.items ≡ drop l.count l.fn.ring.items;
  joined : with_numbers (take l.left l.ring.items) l.joiner ≡ with_numbers (take l.count l.fn.ring.items) l.fn.joiner;
}

abbrev pub decreases-loop-left : goal.decreases-loop-left
decreases-loop-left l = l.left
