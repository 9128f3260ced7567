use Rattle.law_given.proofs.JoinedReports.{reports_are_read}
use Rattle.law_given.proofs.laws.reports_are_read.Goals as goal

pub returns : goal.returns
returns c = reports_are_read
