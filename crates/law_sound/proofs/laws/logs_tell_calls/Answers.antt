use Rattle.law_sound.proofs.Logs.{logs_tell_calls}
use Rattle.law_sound.proofs.laws.logs_tell_calls.Goals as goal

pub returns : goal.returns
returns c = logs_tell_calls
