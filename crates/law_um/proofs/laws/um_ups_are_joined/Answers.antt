use Rattle.law_um.proofs.UmLivedLaws.{um_ups_are_joined}
use Rattle.law_um.proofs.laws.um_ups_are_joined.Goals as goal

pub returns : goal.returns
returns c = um_ups_are_joined
