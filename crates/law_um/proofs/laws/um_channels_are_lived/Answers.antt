use Rattle.law_um.proofs.UmLivedOnAir.{um_channels_are_lived}
use Rattle.law_um.proofs.laws.um_channels_are_lived.Goals as goal

pub returns : goal.returns
returns c = um_channels_are_lived
