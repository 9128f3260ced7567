use Rattle.std.proofs.Common.{◌≡◌, ◌<◌, None, length, IfSome}
use Rattle.rlc_pdu.specs.Views.{nacks_of}
use Rattle.rlc_am_tx_window.specs.Window.{spent_among}
use Rattle.rlc_am_tx_window.proofs.ring.spent_among.Given as goal
use Rattle.rlc_pdu.specs.declared.constants.TheConstants.{AM_MODULUS}

abbrev pub invariant-loop-nack : goal.invariant-loop-nack
invariant-loop-nack l = record {
  rest : spent_among l.base l.most l.ring.items l.found (nacks_of l.rest)
      ≡ spent_among l.base l.most l.ring.items None (nacks_of l.nacks);
  below : IfSome l.found (λ k. k < AM_MODULUS);
}

abbrev pub decreases-loop-nack : goal.decreases-loop-nack
decreases-loop-nack l = length (nacks_of l.rest)
