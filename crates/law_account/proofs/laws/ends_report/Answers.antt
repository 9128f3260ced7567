use Rattle.law_account.proofs.EndsTold.{ends_report}
use Rattle.law_account.proofs.laws.ends_report.Goals as goal

pub returns : goal.returns
returns c = ends_report
