use Rattle.law_rlc.proofs.UmPair.Whole.{whole}
use Rattle.law_rlc.proofs.um_pair.joined_is_offered.Goals as goal

pub returns : goal.returns
returns c = whole
