use Rattle.law_run.proofs.EndLogs.{ends_go_along, ends_go_along_over}
use Rattle.law_run.proofs.SenderLog.{calls_go_along}
use Rattle.law_run.proofs.two_ends.calls_go_along.Goals as goal

pub returns-clause-bearers : goal.returns-clause-bearers
returns-clause-bearers c = calls_go_along

pub returns-clause-ends : goal.returns-clause-ends
returns-clause-ends c = ends_go_along

pub returns-clause-over : goal.returns-clause-over
returns-clause-over c = ends_go_along_over
