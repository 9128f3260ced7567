use Rattle.law_account.proofs.EndsTold.{copies_go_on}
use Rattle.law_account.proofs.laws.copies_go_on.Goals as goal

pub returns : goal.returns
returns c = copies_go_on
