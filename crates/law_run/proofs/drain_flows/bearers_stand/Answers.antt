use Rattle.law_run.proofs.DrainFlows.{bearers_stand}
use Rattle.law_run.proofs.drain_flows.bearers_stand.Goals as goal

pub returns : goal.returns
returns c = bearers_stand
