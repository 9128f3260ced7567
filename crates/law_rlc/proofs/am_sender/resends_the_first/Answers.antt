use Rattle.law_rlc.proofs.AmSender.Resends.{resends}
use Rattle.law_rlc.proofs.am_sender.resends_the_first.Goals as goal

pub returns : goal.returns
returns c = resends
