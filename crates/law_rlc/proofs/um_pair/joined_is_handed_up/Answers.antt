use Rattle.law_rlc.proofs.UmPair.Edge.{handed_up}
use Rattle.law_rlc.proofs.um_pair.joined_is_handed_up.Goals as goal

pub returns : goal.returns
returns c = handed_up
