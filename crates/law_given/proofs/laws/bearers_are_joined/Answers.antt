use Rattle.law_given.proofs.Joined.{bearers_are_joined}
use Rattle.law_given.proofs.laws.bearers_are_joined.Goals as goal

pub returns : goal.returns
returns c = bearers_are_joined
