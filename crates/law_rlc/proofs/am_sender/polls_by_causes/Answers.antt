use Rattle.law_rlc.proofs.AmSender.Polls.{polls}
use Rattle.law_rlc.proofs.am_sender.polls_by_causes.Goals as goal

pub returns : goal.returns
returns c = polls
