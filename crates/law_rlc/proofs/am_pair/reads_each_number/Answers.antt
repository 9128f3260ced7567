use Rattle.law_rlc.proofs.AmPair.Laws.{reads-each-number}
use Rattle.law_rlc.proofs.am_pair.reads_each_number.Goals as goal

pub returns : goal.returns
returns c = reads-each-number
