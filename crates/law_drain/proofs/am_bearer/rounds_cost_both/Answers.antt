use Rattle.law_drain.proofs.Ends.{rounds_cost_both}
use Rattle.law_drain.proofs.am_bearer.rounds_cost_both.Goals as goal

pub returns : goal.returns
returns c = rounds_cost_both
