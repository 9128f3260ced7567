use Rattle.law_deliver.proofs.UmFlow.Flows.{bearers_are_flows}
use Rattle.law_deliver.proofs.um_flow.bearers_are_flows.Goals as goal

pub returns : goal.returns
returns c = bearers_are_flows
