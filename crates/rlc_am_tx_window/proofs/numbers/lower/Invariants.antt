use Rattle.std.proofs.Common.{◌≡◌, ◌+◌, ◌-◌, ◌≤◌, length, drop}
use Rattle.rlc_am_tx_window.specs.Numbers.{lower}
use Rattle.rlc_am_tx_window.proofs.numbers.lower.Given as goal

abbrev pub invariant-loop-at : goal.invariant-loop-at
invariant-loop-at l = record {
  within : l.at ≤ length l.numbers.items;
  rest : l.at + lower l.n (drop l.at l.numbers.items) ≡ lower l.n l.numbers.items;
}

abbrev pub decreases-loop-at : goal.decreases-loop-at
decreases-loop-at l = length l.numbers.items - l.at
