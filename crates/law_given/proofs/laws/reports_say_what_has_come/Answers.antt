use Rattle.law_given.proofs.SayingCounts.{lives_say}
use Rattle.law_given.proofs.SayingReports.{reports_say, ends_say}
use Rattle.law_given.proofs.laws.reports_say_what_has_come.Goals as goal

pub returns-clause-reports : goal.returns-clause-reports
returns-clause-reports c = reports_say

pub returns-clause-ends : goal.returns-clause-ends
returns-clause-ends c = ends_say

pub returns-clause-lives : goal.returns-clause-lives
returns-clause-lives c = lives_say
