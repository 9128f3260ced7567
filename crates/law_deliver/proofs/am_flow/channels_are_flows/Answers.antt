use Rattle.law_deliver.proofs.AmFlow.Links.{channels_are_flows}
use Rattle.law_deliver.proofs.am_flow.channels_are_flows.Goals as goal

pub returns : goal.returns
returns c = channels_are_flows
