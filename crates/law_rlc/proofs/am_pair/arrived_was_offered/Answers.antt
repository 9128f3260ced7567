use Rattle.law_rlc.proofs.AmPair.Laws.{arrived-was-offered}
use Rattle.law_rlc.proofs.am_pair.arrived_was_offered.Goals as goal

pub returns : goal.returns
returns c = arrived-was-offered
