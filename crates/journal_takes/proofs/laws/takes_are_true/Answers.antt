use Rattle.journal_takes.proofs.TakesTold.{takes_are_true}
use Rattle.journal_takes.proofs.laws.takes_are_true.Goals as goal

pub returns : goal.returns
returns c = takes_are_true
