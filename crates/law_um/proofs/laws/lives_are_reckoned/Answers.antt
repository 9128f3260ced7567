use Rattle.law_um.proofs.UmLossesTold.{lives_are_reckoned}
use Rattle.law_um.proofs.laws.lives_are_reckoned.Goals as goal

pub returns : goal.returns
returns c = lives_are_reckoned
