use Rattle.law_drain.proofs.Queues.{unacknowledged_falls}
use Rattle.law_drain.proofs.queue.unacknowledged_falls.Goals as goal

pub returns : goal.returns
returns c = unacknowledged_falls
