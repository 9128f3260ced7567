use Rattle.law_account.proofs.Telling.{calls_tell_limits}
use Rattle.law_account.proofs.laws.calls_tell_limits.Goals as goal

pub returns : goal.returns
returns c = calls_tell_limits
