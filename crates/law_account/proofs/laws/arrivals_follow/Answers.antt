use Rattle.law_account.proofs.History.{arrivals_follow}
use Rattle.law_account.proofs.laws.arrivals_follow.Goals as goal

pub returns : goal.returns
returns c = arrivals_follow
