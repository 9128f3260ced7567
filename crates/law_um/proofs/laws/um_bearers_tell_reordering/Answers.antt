use Rattle.law_um.proofs.UmTimers.{um_bearers_tell_reordering}
use Rattle.law_um.proofs.laws.um_bearers_tell_reordering.Goals as goal

pub returns : goal.returns
returns c = um_bearers_tell_reordering
