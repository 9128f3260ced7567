use Rattle.law_um.proofs.UmLossesTold.{arrivals_are_reckoned}
use Rattle.law_um.proofs.laws.arrivals_are_reckoned.Goals as goal

pub returns : goal.returns
returns c = arrivals_are_reckoned
