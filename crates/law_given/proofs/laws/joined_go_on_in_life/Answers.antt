use Rattle.law_given.proofs.JoinedLasting.{joined_go_on_in_life}
use Rattle.law_given.proofs.laws.joined_go_on_in_life.Goals as goal

pub returns : goal.returns
returns c = joined_go_on_in_life
