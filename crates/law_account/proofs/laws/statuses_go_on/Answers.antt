use Rattle.law_account.proofs.EndsTold.{statuses_go_on}
use Rattle.law_account.proofs.laws.statuses_go_on.Goals as goal

pub returns : goal.returns
returns c = statuses_go_on
