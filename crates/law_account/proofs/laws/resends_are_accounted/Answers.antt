use Rattle.law_account.proofs.Sending.{resends_accounted}
use Rattle.law_account.proofs.laws.resends_are_accounted.Goals as goal

pub returns : goal.returns
returns c = resends_accounted
