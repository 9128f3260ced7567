use Rattle.law_account.proofs.EndsTold.{senders_go_on}
use Rattle.law_account.proofs.laws.senders_go_on.Goals as goal

pub returns : goal.returns
returns c = senders_go_on
