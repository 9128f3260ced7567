use Rattle.std.proofs.Common.{◌≡◌, ◌-◌, length}
use Rattle.rlc_am_rx_window.specs.Window.{widened}
use Rattle.rlc_am_rx_window.proofs.ring.widen.Given as goal

abbrev pub invariant-growth : goal.invariant-growth
invariant-growth l = record {
  capacity : l.ring.capacity ≡ l.fn.ring.capacity;
  items : widened l.ring.items l.size ≡ widened l.fn.ring.items l.size;
}

abbrev pub decreases-growth : goal.decreases-growth
decreases-growth l = l.size - length l.ring.items
