use Rattle.law_rlc.proofs.AmReceiver.Timer.{runs_with_mark}
use Rattle.law_rlc.proofs.am_receiver.timer_runs_with_mark.Goals as goal

pub returns : goal.returns
returns c = runs_with_mark
