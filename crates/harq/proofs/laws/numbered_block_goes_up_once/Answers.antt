use Rattle.harq.proofs.ReceiveLemmas.{answered_once}
use Rattle.harq.proofs.laws.numbered_block_goes_up_once.Goals as goal

pub returns : goal.returns
returns c = answered_once
