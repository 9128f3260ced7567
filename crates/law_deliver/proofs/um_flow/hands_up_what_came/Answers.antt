use Rattle.law_deliver.proofs.UmFlow.Flows.{hands_up_what_came}
use Rattle.law_deliver.proofs.um_flow.hands_up_what_came.Goals as goal

pub returns : goal.returns
returns c = hands_up_what_came
