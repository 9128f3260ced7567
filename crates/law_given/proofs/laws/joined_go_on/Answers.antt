use Rattle.law_given.proofs.JoinedSteps.{joined_go_on}
use Rattle.law_given.proofs.laws.joined_go_on.Goals as goal

pub returns : goal.returns
returns c = joined_go_on
