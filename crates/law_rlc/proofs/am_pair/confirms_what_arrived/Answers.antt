use Rattle.law_rlc.proofs.AmPair.Laws.{confirms-what-arrived}
use Rattle.law_rlc.proofs.am_pair.confirms_what_arrived.Goals as goal

pub returns : goal.returns
returns c = confirms-what-arrived
