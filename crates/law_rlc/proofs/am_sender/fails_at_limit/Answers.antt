use Rattle.law_rlc.proofs.AmSender.Limits.{fails}
use Rattle.law_rlc.proofs.am_sender.fails_at_limit.Goals as goal

pub returns : goal.returns
returns c = fails
