use Rattle.law_account.proofs.Sending.{outset_accounted}
use Rattle.law_account.proofs.laws.outset_is_accounted.Goals as goal

pub returns : goal.returns
returns c = outset_accounted
