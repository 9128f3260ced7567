use Rattle.law_given.proofs.JoinedSteps.{lives_begin_joined}
use Rattle.law_given.proofs.laws.lives_begin_joined.Goals as goal

pub returns : goal.returns
returns c = lives_begin_joined
