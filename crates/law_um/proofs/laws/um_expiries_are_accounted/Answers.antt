use Rattle.law_um.proofs.UmReceiving.{um_expiries_are_accounted}
use Rattle.law_um.proofs.laws.um_expiries_are_accounted.Goals as goal

pub returns : goal.returns
returns c = um_expiries_are_accounted
