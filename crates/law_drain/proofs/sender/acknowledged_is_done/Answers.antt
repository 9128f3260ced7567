use Rattle.law_drain.proofs.Done.{acknowledged_is_done}
use Rattle.law_drain.proofs.sender.acknowledged_is_done.Goals as goal

pub returns : goal.returns
returns c = acknowledged_is_done
