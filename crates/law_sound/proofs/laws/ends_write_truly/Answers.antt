use Rattle.law_sound.proofs.BlockStatuses.{ends_write_truly, reports_are_true}
use Rattle.law_sound.proofs.laws.ends_write_truly.Goals as goal

pub returns-clause-lives : goal.returns-clause-lives
returns-clause-lives c = ends_write_truly

pub returns-clause-reports : goal.returns-clause-reports
returns-clause-reports c = reports_are_true
