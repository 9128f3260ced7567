use Rattle.law_account.proofs.LateStatus.{late_statuses_heard}
use Rattle.law_account.proofs.laws.late_statuses_are_heard.Goals as goal

pub returns : goal.returns
returns c = late_statuses_heard
