use Rattle.journal_flows.proofs.Groups.{histories_are_lives}
use Rattle.journal_flows.proofs.laws.histories_are_lives.Goals as goal

pub returns : goal.returns
returns c = histories_are_lives
