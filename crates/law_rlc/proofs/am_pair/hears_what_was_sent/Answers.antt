use Rattle.law_rlc.proofs.AmPair.Laws.{hears-what-was-sent}
use Rattle.law_rlc.proofs.am_pair.hears_what_was_sent.Goals as goal

pub returns : goal.returns
returns c = hears-what-was-sent
