use Rattle.law_run.proofs.AnyCalls.Passing.{drain_adds}
use Rattle.law_run.proofs.any_calls.drains_are_told.Goals as goal

pub returns : goal.returns
returns c = drain_adds
