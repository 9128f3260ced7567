use Rattle.law_rlc.proofs.AmReceiver.Bound.{bounded}
use Rattle.law_rlc.proofs.am_receiver.bound_is_least.Goals as goal

pub returns : goal.returns
returns c = bounded
