use Rattle.law_drain.proofs.Idle.{idle_is_quiet}
use Rattle.law_drain.proofs.grant.idle_is_quiet.Goals as goal

pub returns : goal.returns
returns c = idle_is_quiet
