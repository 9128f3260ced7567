use Rattle.law_drain.proofs.Done.{given_is_done}
use Rattle.law_drain.proofs.pdcp.given_is_done.Goals as goal

pub returns : goal.returns
returns c = given_is_done
