use Rattle.law_account.proofs.FlowLimits.{flows_tell_limits}
use Rattle.law_account.proofs.laws.flows_tell_limits.Goals as goal

pub returns : goal.returns
returns c = flows_tell_limits
