use Rattle.law_um.proofs.UmLossesTold.{expiries_are_reckoned}
use Rattle.law_um.proofs.laws.expiries_are_reckoned.Goals as goal

pub returns : goal.returns
returns c = expiries_are_reckoned
