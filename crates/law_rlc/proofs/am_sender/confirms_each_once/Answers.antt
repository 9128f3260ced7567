use Rattle.law_rlc.proofs.AmSender.Confirms.{confirms}
use Rattle.law_rlc.proofs.am_sender.confirms_each_once.Goals as goal

pub returns : goal.returns
returns c = confirms
