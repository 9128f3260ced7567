use Rattle.law_sound.proofs.Running.{runs_tell_flows}
use Rattle.law_sound.proofs.laws.runs_tell_flows.Goals as goal

pub returns : goal.returns
returns c = runs_tell_flows
