use Rattle.law_account.proofs.FlowReports.{flows_report}
use Rattle.law_account.proofs.laws.flows_report_truly.Goals as goal

pub returns : goal.returns
returns c = flows_report
