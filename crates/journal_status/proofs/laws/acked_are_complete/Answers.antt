use Rattle.journal_status.proofs.StatusAcks.{acked_are_complete}
use Rattle.journal_status.proofs.laws.acked_are_complete.Goals as goal

pub returns : goal.returns
returns c = acked_are_complete
