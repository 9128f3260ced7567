use Rattle.std.proofs.Common.{◌≡◌, ◌-◌, ◌≤◌, length, max}
use Rattle.rlc_am_rx_window.specs.Window.{first_incomplete}
use Rattle.rlc_am_rx_window.proofs.ring.first_incomplete.Given as goal

abbrev pub invariant-loop-at : goal.invariant-loop-at
invariant-loop-at l = record {
  within : l.at ≤ max l.from (length l.ring.items);
  rest : first_incomplete l.ring.items l.at ≡ first_incomplete l.ring.items l.from;
}

abbrev pub decreases-loop-at : goal.decreases-loop-at
decreases-loop-at l = length l.ring.items - l.at
