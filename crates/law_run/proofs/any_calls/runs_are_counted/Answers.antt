use Rattle.law_run.proofs.AnyCalls.Running.{runs_counted}
use Rattle.law_run.proofs.any_calls.runs_are_counted.Goals as goal

pub returns : goal.returns
returns c = runs_counted
