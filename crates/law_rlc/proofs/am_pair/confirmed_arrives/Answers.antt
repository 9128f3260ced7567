use Rattle.law_rlc.proofs.AmPair.Laws.{confirmed-arrives}
use Rattle.law_rlc.proofs.am_pair.confirmed_arrives.Goals as goal

pub returns : goal.returns
returns c = confirmed-arrives
