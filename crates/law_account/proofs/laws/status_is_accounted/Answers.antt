use Rattle.law_account.proofs.Heard.{status_accounted}
use Rattle.law_account.proofs.laws.status_is_accounted.Goals as goal

pub returns : goal.returns
returns c = status_accounted
