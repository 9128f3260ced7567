use Rattle.std.proofs.Common.{◌≡◌, ◌-◌, ◌<◌, None, drop, length, IfSome}
use Rattle.rlc_am_tx_window.specs.Window.{last_open}
use Rattle.rlc_am_tx_window.proofs.ring.last_open.Given as goal

abbrev pub invariant-loop-at : goal.invariant-loop-at
invariant-loop-at l = record {
  rest : last_open l.at l.found (drop l.at l.ring.items) ≡ last_open 0 None l.ring.items;
  within : IfSome l.found (λ n. n < length l.ring.items);
}

abbrev pub decreases-loop-at : goal.decreases-loop-at
decreases-loop-at l = length l.ring.items - l.at
