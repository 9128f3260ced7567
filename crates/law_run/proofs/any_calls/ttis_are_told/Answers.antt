use Rattle.law_run.proofs.AnyCalls.Passing.{tti_adds}
use Rattle.law_run.proofs.any_calls.ttis_are_told.Goals as goal

pub returns : goal.returns
returns c = tti_adds
