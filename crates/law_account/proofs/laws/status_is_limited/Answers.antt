use Rattle.law_account.proofs.Limit.{status_limited}
use Rattle.law_account.proofs.laws.status_is_limited.Goals as goal

pub returns : goal.returns
returns c = status_limited
