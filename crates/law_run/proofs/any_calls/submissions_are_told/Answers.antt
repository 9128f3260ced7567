use Rattle.law_run.proofs.AnyCalls.Calling.{submitting_adds}
use Rattle.law_run.proofs.any_calls.submissions_are_told.Goals as goal

pub returns : goal.returns
returns c = submitting_adds
