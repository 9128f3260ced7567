use Rattle.law_rlc.proofs.UmPair.Loss.{ordered}
use Rattle.law_rlc.proofs.um_pair.joined_is_in_order.Goals as goal

pub returns : goal.returns
returns c = ordered
