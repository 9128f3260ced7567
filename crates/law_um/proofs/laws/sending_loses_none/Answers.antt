use Rattle.law_um.proofs.UmLossesTold.{sending_loses_none}
use Rattle.law_um.proofs.laws.sending_loses_none.Goals as goal

pub returns : goal.returns
returns c = sending_loses_none
