use Rattle.law_run.proofs.AnyCalls.Leaving.{calls_leave}
use Rattle.law_run.proofs.any_calls.calls_leave_processes.Goals as goal

pub returns : goal.returns
returns c = calls_leave
