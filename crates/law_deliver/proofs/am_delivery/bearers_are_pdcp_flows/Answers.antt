use Rattle.law_deliver.proofs.AmDelivery.Laws.{bearers_are_pdcp_flows}
use Rattle.law_deliver.proofs.am_delivery.bearers_are_pdcp_flows.Goals as goal

pub returns : goal.returns
returns c = bearers_are_pdcp_flows
