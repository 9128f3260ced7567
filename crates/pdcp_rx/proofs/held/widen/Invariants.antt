use Rattle.std.proofs.Common.{◌≡◌, ◌-◌, ◌≤◌, length, max}
use Rattle.pdcp_rx.specs.Held.{widened}
use Rattle.pdcp_rx.proofs.held.widen.Given as goal

abbrev pub invariant-growth : goal.invariant-growth
invariant-growth l = record {
  items : widened l.held.items l.size ≡ widened l.fn.held.items l.size;
  len : length l.held.items ≤ max (length l.fn.held.items) l.size;
}

abbrev pub decreases-growth : goal.decreases-growth
decreases-growth l = l.size - length l.held.items
