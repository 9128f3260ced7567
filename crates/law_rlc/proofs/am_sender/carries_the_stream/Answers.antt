use Rattle.law_rlc.proofs.AmSender.Carried.{carried}
use Rattle.law_rlc.proofs.am_sender.carries_the_stream.Goals as goal

pub returns : goal.returns
returns c = carried
