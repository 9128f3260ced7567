use Rattle.law_rlc.proofs.UmPair.Air.{delivered}
use Rattle.law_rlc.proofs.um_pair.delivered_in_order.Goals as goal

pub returns : goal.returns
returns c = delivered
