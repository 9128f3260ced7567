use Rattle.law_rlc.proofs.AmPair.Laws.{hands-up-all}
use Rattle.law_rlc.proofs.am_pair.hands_up_all.Goals as goal

pub returns : goal.returns
returns c = hands-up-all
