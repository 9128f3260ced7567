use Rattle.law_account.proofs.Receiving.{other_calls}
use Rattle.law_account.proofs.laws.other_calls_are_accounted.Goals as goal

pub returns : goal.returns
returns c = other_calls
