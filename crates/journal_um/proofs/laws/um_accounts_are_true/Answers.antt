use Rattle.journal_um.proofs.Accounts.{um_accounts_are_true}
use Rattle.journal_um.proofs.laws.um_accounts_are_true.Goals as goal

pub returns : goal.returns
returns c = um_accounts_are_true
