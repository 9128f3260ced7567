use Rattle.harq.proofs.SendLemmas.{keeps_blocks}
use Rattle.harq.proofs.laws.sender_keeps_blocks.Goals as goal

pub returns : goal.returns
returns c = keeps_blocks
