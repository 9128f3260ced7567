use Rattle.law_rlc.proofs.AmPair.Laws.{keeps-order}
use Rattle.law_rlc.proofs.am_pair.keeps_order.Goals as goal

pub returns : goal.returns
returns c = keeps-order
