use Rattle.law_account.proofs.History.{calls_follow}
use Rattle.law_account.proofs.laws.calls_follow.Goals as goal

pub returns : goal.returns
returns c = calls_follow
