use Rattle.law_run.proofs.Everything.{every-journal}
use Rattle.law_run.proofs.laws.every_journal.Goals as goal

pub returns : goal.returns
returns c = every-journal
