use Rattle.law_account.proofs.FlowReports.{receivers_told}
use Rattle.law_account.proofs.laws.receivers_are_told.Goals as goal

pub returns : goal.returns
returns c = receivers_told
