use Rattle.law_rlc.proofs.AmReceiver.Clash.{none_clashes}
use Rattle.law_rlc.proofs.am_receiver.never_clashes.Goals as goal

pub returns : goal.returns
returns c = none_clashes
