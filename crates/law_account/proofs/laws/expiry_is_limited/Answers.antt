use Rattle.law_account.proofs.Limit.{expiry_limited}
use Rattle.law_account.proofs.laws.expiry_is_limited.Goals as goal

pub returns : goal.returns
returns c = expiry_limited
