use Rattle.law_um.proofs.UmSending.{um_offers_are_told}
use Rattle.law_um.proofs.laws.um_offers_are_told.Goals as goal

pub returns : goal.returns
returns c = um_offers_are_told
