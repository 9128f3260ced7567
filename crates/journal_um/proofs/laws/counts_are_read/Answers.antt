use Rattle.journal_um.proofs.CountReading.{counts_are_read}
use Rattle.journal_um.proofs.laws.counts_are_read.Goals as goal

pub returns : goal.returns
returns c = counts_are_read
