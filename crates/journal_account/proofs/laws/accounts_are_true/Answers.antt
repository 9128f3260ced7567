use Rattle.journal_account.proofs.Accounts.{accounts_are_true}
use Rattle.journal_account.proofs.laws.accounts_are_true.Goals as goal

pub returns : goal.returns
returns c = accounts_are_true
