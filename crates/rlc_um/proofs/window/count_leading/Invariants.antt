use Rattle.std.proofs.Common.{◌≡◌, ◌-◌, ◌+◌, ◌≤◌, length, drop}
use Rattle.rlc_um.specs.Window.{leading}
use Rattle.rlc_um.proofs.window.count_leading.Given as goal

abbrev pub invariant-loop-at : goal.invariant-loop-at
invariant-loop-at l = record {
  within : l.at ≤ length l.ring.items;
  rest : l.at + leading (drop l.at l.ring.items) ≡ leading l.ring.items;
}

abbrev pub decreases-loop-at : goal.decreases-loop-at
decreases-loop-at l = length l.ring.items - l.at
