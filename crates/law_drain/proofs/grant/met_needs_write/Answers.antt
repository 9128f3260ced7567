use Rattle.law_drain.proofs.MetNeeds.{met_needs_write}
use Rattle.law_drain.proofs.grant.met_needs_write.Goals as goal

pub returns : goal.returns
returns c = met_needs_write
