use Rattle.law_rlc.proofs.AmSender.Watches.{watches}
use Rattle.law_rlc.proofs.am_sender.runs_the_poll_timer.Goals as goal

pub returns : goal.returns
returns c = watches
