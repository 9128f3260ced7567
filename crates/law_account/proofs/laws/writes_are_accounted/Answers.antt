use Rattle.law_account.proofs.Sending.{writes_accounted}
use Rattle.law_account.proofs.laws.writes_are_accounted.Goals as goal

pub returns : goal.returns
returns c = writes_accounted
