use Rattle.law_run.proofs.DrainFlows.{rounds_cost_flows, flows_never_rise}
use Rattle.law_run.proofs.drain_flows.rounds_cost_flows.Goals as goal

pub returns-clause-rounds : goal.returns-clause-rounds
returns-clause-rounds c = rounds_cost_flows

pub returns-clause-drains : goal.returns-clause-drains
returns-clause-drains c = flows_never_rise
