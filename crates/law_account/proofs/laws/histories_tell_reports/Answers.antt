use Rattle.law_account.proofs.FlowReceiving.{histories_tell_reports}
use Rattle.law_account.proofs.laws.histories_tell_reports.Goals as goal

pub returns : goal.returns
returns c = histories_tell_reports
