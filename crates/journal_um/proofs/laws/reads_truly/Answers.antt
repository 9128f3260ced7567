use Rattle.journal_um.proofs.Accepting.{accepts_truly}
use Rattle.journal_um.proofs.Reading.{reads_truly}
use Rattle.journal_um.proofs.laws.reads_truly.Goals as goal

pub returns-clause-reads : goal.returns-clause-reads
returns-clause-reads c = reads_truly

pub returns-clause-accepts : goal.returns-clause-accepts
returns-clause-accepts c = accepts_truly
