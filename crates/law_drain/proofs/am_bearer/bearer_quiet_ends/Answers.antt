use Rattle.law_drain.proofs.BearerQuiet.{bearer_quiet_ends}
use Rattle.law_drain.proofs.am_bearer.bearer_quiet_ends.Goals as goal

pub returns : goal.returns
returns c = bearer_quiet_ends
