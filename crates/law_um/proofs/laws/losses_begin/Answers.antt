use Rattle.law_um.proofs.UmLossesTold.{losses_begin}
use Rattle.law_um.proofs.laws.losses_begin.Goals as goal

pub returns : goal.returns
returns c = losses_begin
