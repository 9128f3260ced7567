use Rattle.law_account.proofs.Taken.{takes_limited}
use Rattle.law_account.proofs.laws.takes_are_limited.Goals as goal

pub returns : goal.returns
returns c = takes_limited
