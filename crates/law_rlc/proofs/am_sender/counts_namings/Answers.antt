use Rattle.law_rlc.proofs.AmSender.Marked.{marked}
use Rattle.law_rlc.proofs.am_sender.counts_namings.Goals as goal

pub returns : goal.returns
returns c = marked
