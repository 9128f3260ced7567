use Rattle.law_rlc.proofs.UmPair.Edge.{finished_all}
use Rattle.law_rlc.proofs.um_pair.all_is_joined.Goals as goal

pub returns : goal.returns
returns c = finished_all
