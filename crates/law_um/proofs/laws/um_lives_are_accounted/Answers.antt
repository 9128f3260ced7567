use Rattle.law_um.proofs.UmReceiving.{um_lives_are_accounted}
use Rattle.law_um.proofs.laws.um_lives_are_accounted.Goals as goal

pub returns : goal.returns
returns c = um_lives_are_accounted
