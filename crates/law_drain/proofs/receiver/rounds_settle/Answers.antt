use Rattle.law_drain.proofs.Pending.{rounds_settle}
use Rattle.law_drain.proofs.receiver.rounds_settle.Goals as goal

pub returns : goal.returns
returns c = rounds_settle
