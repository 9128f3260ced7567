use Rattle.std.proofs.Common.{◌≡◌, ◌+◌, ◌-◌, ◌≤◌}
use Rattle.rlc_am_tx_window.specs.Sent.{waiting_between}
use Rattle.rlc_am_tx_window.proofs.slot.missing.Given as goal

abbrev pub invariant-loop-part : goal.invariant-loop-part
invariant-loop-part l = record {
  rest : l.count + waiting_between l.at l.size l.resting ≡ waiting_between 0 l.size l.resting;
  few : l.count ≤ l.at;
  within : l.at ≤ l.size;
}

abbrev pub decreases-loop-part : goal.decreases-loop-part
decreases-loop-part l = l.size - l.at
