use Rattle.law_account.proofs.Reporting.{reports_true}
use Rattle.law_account.proofs.laws.reports_are_true.Goals as goal

pub returns : goal.returns
returns c = reports_true
