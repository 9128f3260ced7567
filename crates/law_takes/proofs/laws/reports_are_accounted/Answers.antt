use Rattle.law_takes.proofs.Reporting.{reports_are_accounted}
use Rattle.law_takes.proofs.laws.reports_are_accounted.Goals as goal

pub returns : goal.returns
returns c = reports_are_accounted
