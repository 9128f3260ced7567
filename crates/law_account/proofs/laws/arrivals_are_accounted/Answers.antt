use Rattle.law_account.proofs.Receiving.{arrivals_accounted}
use Rattle.law_account.proofs.laws.arrivals_are_accounted.Goals as goal

pub returns : goal.returns
returns c = arrivals_accounted
