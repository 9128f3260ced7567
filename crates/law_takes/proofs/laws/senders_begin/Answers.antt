use Rattle.law_takes.proofs.Waiting.{senders_begin}
use Rattle.law_takes.proofs.laws.senders_begin.Goals as goal

pub returns : goal.returns
returns c = senders_begin
