use Rattle.law_drain.proofs.BearerCalls.{bearer_dues_fall}
use Rattle.law_drain.proofs.am_bearer.bearer_dues_fall.Goals as goal

pub returns : goal.returns
returns c = bearer_dues_fall
