use Rattle.journal_flows.proofs.Numbers.{front_least}
use Rattle.journal_flows.proofs.laws.fronts_are_least.Goals as goal

pub returns : goal.returns
returns c = front_least
