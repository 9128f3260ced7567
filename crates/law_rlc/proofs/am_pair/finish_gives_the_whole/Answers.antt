use Rattle.law_rlc.proofs.AmPair.Laws.{finish-gives-the-whole}
use Rattle.law_rlc.proofs.am_pair.finish_gives_the_whole.Goals as goal

pub returns : goal.returns
returns c = finish-gives-the-whole
