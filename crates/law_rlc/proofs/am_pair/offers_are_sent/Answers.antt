use Rattle.law_rlc.proofs.AmPair.Laws.{offers-are-sent}
use Rattle.law_rlc.proofs.am_pair.offers_are_sent.Goals as goal

pub returns : goal.returns
returns c = offers-are-sent
