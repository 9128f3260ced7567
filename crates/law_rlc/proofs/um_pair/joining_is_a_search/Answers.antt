use Rattle.law_rlc.proofs.UmPair.Search.{search_is}
use Rattle.law_rlc.proofs.um_pair.joining_is_a_search.Goals as goal

pub returns : goal.returns
returns c = search_is
