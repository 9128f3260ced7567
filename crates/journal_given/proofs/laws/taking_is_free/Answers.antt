use Rattle.journal_given.proofs.Taking.{taking_is_free}
use Rattle.journal_given.proofs.laws.taking_is_free.Goals as goal

pub returns : goal.returns
returns c = taking_is_free
