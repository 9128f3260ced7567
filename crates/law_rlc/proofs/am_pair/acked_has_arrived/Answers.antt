use Rattle.law_rlc.proofs.AmPair.Laws.{acked-has-arrived}
use Rattle.law_rlc.proofs.am_pair.acked_has_arrived.Goals as goal

pub returns : goal.returns
returns c = acked-has-arrived
