use Rattle.law_um.proofs.UmReceiving.{um_handing_is_accounted}
use Rattle.law_um.proofs.laws.um_handing_is_accounted.Goals as goal

pub returns : goal.returns
returns c = um_handing_is_accounted
