use Rattle.law_given.proofs.SupplyLives.{data_is_gathered}
use Rattle.law_given.proofs.laws.data_is_gathered.Goals as goal

pub returns : goal.returns
returns c = data_is_gathered
