use Rattle.law_run.proofs.DrainTtis.Clearing.{first_eight, steps_eight}
use Rattle.law_run.proofs.drain_ttis.processes_are_eight.Goals as goal

pub returns-clause-first : goal.returns-clause-first
returns-clause-first c = first_eight

pub returns-clause-steps : goal.returns-clause-steps
returns-clause-steps c = steps_eight
