use Rattle.pdcp_tx.proofs.Order.{ascends}
use Rattle.pdcp_tx.proofs.laws.takes_in_order.Goals as goal

pub returns : goal.returns
returns c = λ s calls h. ascends 0 s calls h
