use Rattle.law_sound.proofs.Logs.{logs_tell_flows}
use Rattle.law_sound.proofs.laws.logs_tell_flows.Goals as goal

pub returns : goal.returns
returns c = logs_tell_flows
