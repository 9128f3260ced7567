use Rattle.std.proofs.Common.{◌≡◌, ◌+◌, ◌*◌, ◌^◌, ◌-◌, ◌≤◌, length, drop}
use Rattle.rlc_am_rx_window.specs.Missing.{missing_below, entries_bits}
use Rattle.rlc_am_rx_window.proofs.ring.missing_bits.Given as goal

abbrev pub invariant-numbers : goal.invariant-numbers
invariant-numbers l = record {
  within : l.at ≤ length l.ring.items;
  few : l.bits ≤ 2 ^ 22 * l.at;
  rest : l.bits + entries_bits (missing_below (drop l.at l.ring.items) (l.front + l.at) l.bound)
      ≡ entries_bits (missing_below l.ring.items l.front l.bound);
}

abbrev pub decreases-numbers : goal.decreases-numbers
decreases-numbers l = length l.ring.items - l.at
