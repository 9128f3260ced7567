use Rattle.law_account.proofs.EndsTold.{receivers_go_on}
use Rattle.law_account.proofs.laws.receivers_go_on.Goals as goal

pub returns : goal.returns
returns c = receivers_go_on
