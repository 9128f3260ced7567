use Rattle.law_drain.proofs.Used.{shares_are_used}
use Rattle.law_drain.proofs.grant.shares_are_used.Goals as goal

pub returns : goal.returns
returns c = shares_are_used
