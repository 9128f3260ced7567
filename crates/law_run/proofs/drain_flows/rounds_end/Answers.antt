use Rattle.law_run.proofs.DrainEnds.{rounds_end}
use Rattle.law_run.proofs.drain_flows.rounds_end.Goals as goal

pub returns : goal.returns
returns c = rounds_end
