use Rattle.journal_um.proofs.Reading.{reads_numbers}
use Rattle.journal_um.proofs.laws.reads_numbers.Goals as goal

pub returns : goal.returns
returns c = reads_numbers
