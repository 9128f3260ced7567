use Rattle.law_deliver.proofs.AmFlow.UnderWay.{blocks_carry_flows, statuses_are_of_reports}
use Rattle.law_deliver.proofs.am_flow.blocks_carry_flows.Goals as goal

pub returns-clause-carries : goal.returns-clause-carries
returns-clause-carries c = blocks_carry_flows

pub returns-clause-reads : goal.returns-clause-reads
returns-clause-reads c = statuses_are_of_reports
