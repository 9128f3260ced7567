use Rattle.law_account.proofs.History.{outset_follows}
use Rattle.law_account.proofs.laws.outset_follows.Goals as goal

pub returns : goal.returns
returns c = outset_follows
