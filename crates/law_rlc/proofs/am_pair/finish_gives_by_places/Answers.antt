use Rattle.law_rlc.proofs.AmPair.Laws.{finish-gives-by-places}
use Rattle.law_rlc.proofs.am_pair.finish_gives_by_places.Goals as goal

pub returns : goal.returns
returns c = finish-gives-by-places
