use Rattle.law_rlc.proofs.AmSender.Longest.{longest}
use Rattle.law_rlc.proofs.am_sender.cut_is_longest.Goals as goal

pub returns : goal.returns
returns c = longest
