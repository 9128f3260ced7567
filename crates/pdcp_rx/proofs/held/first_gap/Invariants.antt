use Rattle.std.proofs.Common.{◌≡◌, ◌+◌, ◌-◌, ◌≤◌, length, drop}
use Rattle.pdcp_rx.specs.Held.{leading_held}
use Rattle.pdcp_rx.proofs.held.first_gap.Given as goal

abbrev pub invariant-loop-at : goal.invariant-loop-at
invariant-loop-at l = record {
  within : l.at ≤ length l.held.items;
  rest : l.at + leading_held (drop l.at l.held.items) ≡ l.from + leading_held (drop l.from l.held.items);
}

abbrev pub decreases-loop-at : goal.decreases-loop-at
decreases-loop-at l = length l.held.items - l.at
