use Rattle.law_account.proofs.Receiving.{receiver_outset}
use Rattle.law_account.proofs.laws.receiver_outset_is_accounted.Goals as goal

pub returns : goal.returns
returns c = receiver_outset
