use Rattle.journal_account.proofs.Walks.{confirmed_so}
use Rattle.journal_account.proofs.laws.confirmed_alike.Goals as goal

pub returns : goal.returns
returns c = confirmed_so
