use Rattle.law_drain.proofs.FlowRound.{rounds_cost}
use Rattle.law_drain.proofs.flow.rounds_cost.Goals as goal

pub returns : goal.returns
returns c = rounds_cost
