use Rattle.law_rlc.proofs.AmReceiver.Finish.{finishes}
use Rattle.law_rlc.proofs.am_receiver.finish_gives_what_is_whole.Goals as goal

pub returns : goal.returns
returns c = finishes
