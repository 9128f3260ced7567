use Rattle.law_um.proofs.UmTimers.{um_bearers_begin_beside}
use Rattle.law_um.proofs.laws.um_bearers_begin_beside.Goals as goal

pub returns : goal.returns
returns c = um_bearers_begin_beside
