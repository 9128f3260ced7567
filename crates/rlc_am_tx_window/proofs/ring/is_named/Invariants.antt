use Rattle.std.proofs.Common.{◌≡◌, length}
use Rattle.rlc_pdu.specs.Views.{nacks_of}
use Rattle.rlc_am_tx_window.specs.Window.{is_named}
use Rattle.rlc_am_tx_window.proofs.ring.is_named.Given as goal

abbrev pub invariant-loop-nack : goal.invariant-loop-nack
invariant-loop-nack l = is_named l.base l.at (nacks_of l.rest) ≡ is_named l.base l.at (nacks_of l.nacks)

abbrev pub decreases-loop-nack : goal.decreases-loop-nack
decreases-loop-nack l = length (nacks_of l.rest)
