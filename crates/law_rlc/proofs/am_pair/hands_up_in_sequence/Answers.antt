use Rattle.law_rlc.proofs.AmPair.Laws.{hands-up-in-sequence}
use Rattle.law_rlc.proofs.am_pair.hands_up_in_sequence.Goals as goal

pub returns : goal.returns
returns c = hands-up-in-sequence
