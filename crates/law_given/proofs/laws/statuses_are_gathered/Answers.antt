use Rattle.law_given.proofs.SupplyConfirming.{statuses_are_gathered}
use Rattle.law_given.proofs.laws.statuses_are_gathered.Goals as goal

pub returns : goal.returns
returns c = statuses_are_gathered
