use Rattle.law_run.proofs.DrainTtis.Clearing.{processes_clear}
use Rattle.law_run.proofs.drain_ttis.processes_clear.Goals as goal

pub returns : goal.returns
returns c = processes_clear
