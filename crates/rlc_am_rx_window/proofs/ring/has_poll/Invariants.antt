use Rattle.std.proofs.Common.{◌≡◌}
use Rattle.rlc_am_rx_window.specs.Window.{polled_in}
use Rattle.rlc_am_rx_window.proofs.ring.has_poll.Given as goal

abbrev pub invariant-loop-at : goal.invariant-loop-at
invariant-loop-at l = polled_in l.ring.items l.at l.to ≡ polled_in l.ring.items l.from l.to
