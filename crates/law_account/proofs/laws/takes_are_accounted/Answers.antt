use Rattle.law_account.proofs.Taken.{takes_accounted}
use Rattle.law_account.proofs.laws.takes_are_accounted.Goals as goal

pub returns : goal.returns
returns c = takes_accounted
