use Rattle.law_rlc.proofs.AmPair.Laws.{hands-up-the-front}
use Rattle.law_rlc.proofs.am_pair.hands_up_the_front.Goals as goal

pub returns : goal.returns
returns c = hands-up-the-front
