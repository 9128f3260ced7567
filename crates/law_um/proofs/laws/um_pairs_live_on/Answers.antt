use Rattle.law_um.proofs.UmLived.{um_pairs_live_on}
use Rattle.law_um.proofs.laws.um_pairs_live_on.Goals as goal

pub returns : goal.returns
returns c = um_pairs_live_on
