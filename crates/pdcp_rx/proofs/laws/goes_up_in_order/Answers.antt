use Rattle.pdcp_rx.proofs.LawLemmas.{ascends}
use Rattle.pdcp_rx.proofs.laws.goes_up_in_order.Goals as goal

pub returns : goal.returns
returns c = ascends
