use Rattle.law_account.proofs.FlowReceiving.{copies_accounted}
use Rattle.law_account.proofs.laws.copies_are_accounted.Goals as goal

pub returns : goal.returns
returns c = copies_accounted
