use Rattle.law_account.proofs.Limit.{sending_limited}
use Rattle.law_account.proofs.laws.sending_is_limited.Goals as goal

pub returns : goal.returns
returns c = sending_limited
