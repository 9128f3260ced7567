use Rattle.law_rlc.proofs.AmSender.Least.{least}
use Rattle.law_rlc.proofs.am_sender.base_is_least.Goals as goal

pub returns : goal.returns
returns c = least
