use Rattle.law_drain.proofs.Rounds.{flows_cost}
use Rattle.law_drain.proofs.am_bearer.flows_cost.Goals as goal

pub returns : goal.returns
returns c = flows_cost
