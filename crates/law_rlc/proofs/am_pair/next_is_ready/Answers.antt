use Rattle.law_rlc.proofs.AmPair.Laws.{next-is-ready}
use Rattle.law_rlc.proofs.am_pair.next_is_ready.Goals as goal

pub returns : goal.returns
returns c = next-is-ready
