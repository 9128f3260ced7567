use Rattle.law_rlc.proofs.AmPair.Laws.{arrived-stays}
use Rattle.law_rlc.proofs.am_pair.arrivals_stay.Goals as goal

pub returns : goal.returns
returns c = arrived-stays
