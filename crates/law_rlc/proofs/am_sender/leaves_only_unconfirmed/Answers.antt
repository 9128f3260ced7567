use Rattle.law_rlc.proofs.AmSender.Left.{leaves-only-unconfirmed}
use Rattle.law_rlc.proofs.am_sender.leaves_only_unconfirmed.Goals as goal

pub returns : goal.returns
returns c = leaves-only-unconfirmed
