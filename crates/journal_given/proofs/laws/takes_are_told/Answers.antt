use Rattle.journal_given.proofs.Exact.{takes_are_told}
use Rattle.journal_given.proofs.laws.takes_are_told.Goals as goal

pub returns : goal.returns
returns c = takes_are_told
