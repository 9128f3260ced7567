use Rattle.law_account.proofs.TrueStatus.{true_status_heard}
use Rattle.law_account.proofs.laws.true_statuses_are_heard.Goals as goal

pub returns : goal.returns
returns c = true_status_heard
