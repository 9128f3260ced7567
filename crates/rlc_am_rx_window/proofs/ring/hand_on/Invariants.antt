use Rattle.std.proofs.Common.{◌≡◌, ◌+◌, ◌≤◌, length, drop}
use Rattle.rlc_am_rx_window.specs.Window.{complete_first, given_after, handed_on}
use Rattle.rlc_am_rx_window.proofs.ring.hand_on.Given as goal

abbrev pub invariant-loop-front : goal.invariant-loop-front
invariant-loop-front l = record {
  sum : l.front + length l.ring.items ≡ l.fn.front + length l.fn.ring.items;
  fewer : length l.ring.items ≤ length l.fn.ring.items;
  capacity : l.ring.capacity ≡ l.fn.ring.capacity;
  front : l.front + complete_first l.ring.items ≡ l.fn.front + complete_first l.fn.ring.items;
  slots : drop (complete_first l.ring.items) l.ring.items ≡ drop (complete_first l.fn.ring.items) l.fn.ring.items;
  given : given_after l.ring.items l.given ≡ given_after l.fn.ring.items l.fn.given;
  out : handed_on l.out l.ring.items l.given ≡ handed_on l.fn.out l.fn.ring.items l.fn.given;
}

abbrev pub decreases-loop-front : goal.decreases-loop-front
decreases-loop-front l = length l.ring.items
