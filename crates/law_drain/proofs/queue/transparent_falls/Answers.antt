use Rattle.law_drain.proofs.Queues.{transparent_falls}
use Rattle.law_drain.proofs.queue.transparent_falls.Goals as goal

pub returns : goal.returns
returns c = transparent_falls
