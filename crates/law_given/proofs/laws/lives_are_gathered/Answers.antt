use Rattle.law_given.proofs.SupplyLives.{lives_are_gathered}
use Rattle.law_given.proofs.laws.lives_are_gathered.Goals as goal

pub returns : goal.returns
returns c = lives_are_gathered
