use Rattle.std.proofs.Common.{◌≡◌}
use Rattle.rlc_am_rx_window.specs.Window.{salvaged}
use Rattle.rlc_am_rx_window.proofs.ring.salvage.Given as goal

abbrev pub invariant-loop-slot : goal.invariant-loop-slot
invariant-loop-slot l = salvaged l.out l.slot-iterator l.from ≡ salvaged l.fn.out l.ring.items l.given
