use Rattle.law_drain.proofs.Resting.{idle_is_drained}
use Rattle.law_drain.proofs.am_bearer.idle_is_drained.Goals as goal

pub returns : goal.returns
returns c = idle_is_drained
