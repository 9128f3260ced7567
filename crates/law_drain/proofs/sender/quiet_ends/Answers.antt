use Rattle.law_drain.proofs.Quiet.{quiet_ends}
use Rattle.law_drain.proofs.sender.quiet_ends.Goals as goal

pub returns : goal.returns
returns c = quiet_ends
