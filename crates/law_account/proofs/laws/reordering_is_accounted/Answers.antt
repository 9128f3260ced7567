use Rattle.law_account.proofs.ReceivingExpired.{reordering_accounted}
use Rattle.law_account.proofs.laws.reordering_is_accounted.Goals as goal

pub returns : goal.returns
returns c = reordering_accounted
