use Rattle.pdcp_tx.proofs.Head.{heads}
use Rattle.pdcp_tx.proofs.laws.takes_the_head.Goals as goal

pub returns : goal.returns
returns c = heads
