use Rattle.law_run.proofs.AnyCalls.Calling.{calls_adds}
use Rattle.law_run.proofs.any_calls.calls_are_told.Goals as goal

pub returns : goal.returns
returns c = calls_adds
