use Rattle.law_rlc.proofs.UmPair.Which.{hands_up_what_came}
use Rattle.law_rlc.proofs.um_pair.hands_up_what_came.Goals as goal

pub returns : goal.returns
returns c = hands_up_what_came
