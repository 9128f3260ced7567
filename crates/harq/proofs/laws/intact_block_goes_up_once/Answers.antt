use Rattle.harq.proofs.ReceiveLemmas.{answers_right}
use Rattle.harq.proofs.laws.intact_block_goes_up_once.Goals as goal

pub returns : goal.returns
returns c = answers_right
