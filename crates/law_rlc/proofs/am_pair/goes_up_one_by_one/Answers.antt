use Rattle.law_rlc.proofs.AmPair.Steps.{goes-up}
use Rattle.law_rlc.proofs.am_pair.goes_up_one_by_one.Goals as goal

pub returns : goal.returns
returns c = goes-up
