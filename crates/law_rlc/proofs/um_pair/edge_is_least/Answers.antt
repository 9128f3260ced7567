use Rattle.law_rlc.proofs.UmPair.Edge.{edge}
use Rattle.law_rlc.proofs.um_pair.edge_is_least.Goals as goal

pub returns : goal.returns
returns c = edge
