use Rattle.law_rlc.proofs.AmSender.Writes.{writes}
use Rattle.law_rlc.proofs.am_sender.writes_the_stream.Goals as goal

pub returns : goal.returns
returns c = writes
