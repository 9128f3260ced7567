use Rattle.law_run.proofs.DrainRounds.Calling.{rounds_are_calls}
use Rattle.law_run.proofs.drain_rounds.rounds_are_calls.Goals as goal

pub returns : goal.returns
returns c = rounds_are_calls
