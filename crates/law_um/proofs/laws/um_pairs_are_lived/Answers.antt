use Rattle.law_um.proofs.UmLived.{um_pairs_are_lived}
use Rattle.law_um.proofs.laws.um_pairs_are_lived.Goals as goal

pub returns : goal.returns
returns c = um_pairs_are_lived
