use Rattle.law_drain.proofs.Sharing.{grants_are_used}
use Rattle.law_drain.proofs.grant.grants_are_used.Goals as goal

pub returns : goal.returns
returns c = grants_are_used
