use Rattle.law_rlc.proofs.AmReceiver.InSequence.{in_sequence}
use Rattle.law_rlc.proofs.am_receiver.goes_up_in_sequence.Goals as goal

pub returns : goal.returns
returns c = in_sequence
