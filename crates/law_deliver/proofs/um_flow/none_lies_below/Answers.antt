use Rattle.law_deliver.proofs.UmFlow.Flows.{none_lies_below}
use Rattle.law_deliver.proofs.um_flow.none_lies_below.Goals as goal

pub returns : goal.returns
returns c = none_lies_below
