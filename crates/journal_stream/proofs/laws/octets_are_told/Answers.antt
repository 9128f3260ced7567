use Rattle.journal_stream.proofs.SentTold.{told}
use Rattle.journal_stream.proofs.laws.octets_are_told.Goals as goal

pub returns : goal.returns
returns c = told
