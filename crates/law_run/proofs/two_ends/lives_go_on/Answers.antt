use Rattle.law_run.proofs.TwoEnds.Lived.{ends_live, bearers_live, steps_live, runs_live}
use Rattle.law_run.proofs.two_ends.lives_go_on.Goals as goal

pub returns-clause-bearers : goal.returns-clause-bearers
returns-clause-bearers c = bearers_live

pub returns-clause-steps : goal.returns-clause-steps
returns-clause-steps c = steps_live

pub returns-clause-runs : goal.returns-clause-runs
returns-clause-runs c = runs_live

pub returns-clause-ends : goal.returns-clause-ends
returns-clause-ends c = ends_live
