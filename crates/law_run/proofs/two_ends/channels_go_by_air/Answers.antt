use Rattle.law_run.proofs.TwoEnds.Coming.{bearers_begin, steps_come, ends_come}
use Rattle.law_run.proofs.two_ends.channels_go_by_air.Goals as goal

pub returns-clause-bearers : goal.returns-clause-bearers
returns-clause-bearers c = bearers_begin

pub returns-clause-steps : goal.returns-clause-steps
returns-clause-steps c = steps_come

pub returns-clause-ends : goal.returns-clause-ends
returns-clause-ends c = ends_come
