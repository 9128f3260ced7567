use Rattle.std.proofs.Common.{◌≡◌, ◌+◌, ◌≤◌, length, drop}
use Rattle.rlc_am_tx_window.specs.Window.{leading_acked, waiting_from}
use Rattle.rlc_am_tx_window.proofs.ring.advance.Given as goal

abbrev pub invariant-loop-slot : goal.invariant-loop-slot
invariant-loop-slot l = record {
  sum : l.base + length l.ring.items ≡ l.fn.base + length l.fn.ring.items;
  fewer : length l.ring.items ≤ length l.fn.ring.items;
  capacity : l.ring.capacity ≡ l.fn.ring.capacity;
  sync : l.waiting ≡ waiting_from l.base l.ring.items;
  base : l.base + leading_acked l.ring.items ≡ l.fn.base + leading_acked l.fn.ring.items;
  slots : drop (leading_acked l.ring.items) l.ring.items ≡ drop (leading_acked l.fn.ring.items) l.fn.ring.items;
}

abbrev pub decreases-loop-slot : goal.decreases-loop-slot
decreases-loop-slot l = length l.ring.items
