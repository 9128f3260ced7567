use Rattle.std.proofs.Common.{◌≡◌, ◌+◌, ◌-◌, ◌++◌, length, drop}
use Rattle.rlc_am_rx_window.specs.Missing.{missing_below, AreRanges}
use Rattle.rlc_am_rx_window.proofs.ring.missing.Given as goal

abbrev pub invariant-numbers : goal.invariant-numbers
invariant-numbers l = record {
  ranges : AreRanges l.all.items;
  added : l.all.items ++ missing_below (drop l.at l.ring.items) (l.front + l.at) l.bound
      ≡ missing_below l.ring.items l.front l.bound;
}

abbrev pub decreases-numbers : goal.decreases-numbers
decreases-numbers l = length l.ring.items - l.at
