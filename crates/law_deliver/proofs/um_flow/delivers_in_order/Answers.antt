use Rattle.law_deliver.proofs.UmFlow.Flows.{delivers_in_order}
use Rattle.law_deliver.proofs.um_flow.delivers_in_order.Goals as goal

pub returns : goal.returns
returns c = delivers_in_order
