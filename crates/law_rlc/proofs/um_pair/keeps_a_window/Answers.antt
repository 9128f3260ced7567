use Rattle.law_rlc.proofs.UmPair.Edge.{bounded}
use Rattle.law_rlc.proofs.um_pair.keeps_a_window.Goals as goal

pub returns : goal.returns
returns c = bounded
