use Rattle.law_account.proofs.Expired.{expiry_accounted}
use Rattle.law_account.proofs.laws.expiry_is_accounted.Goals as goal

pub returns : goal.returns
returns c = expiry_accounted
