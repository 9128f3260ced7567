use Rattle.law_rlc.proofs.AmPair.Laws.{nothing-clashes}
use Rattle.law_rlc.proofs.am_pair.nothing_clashes.Goals as goal

pub returns : goal.returns
returns c = nothing-clashes
