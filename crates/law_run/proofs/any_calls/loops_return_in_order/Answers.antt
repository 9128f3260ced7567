use Rattle.law_run.proofs.AnyCalls.Settling.{first_rests, calls_loop_back, submissions_loop_back, ttis_loop_back}
use Rattle.law_run.proofs.AnyCalls.Settling.{drains_loop_back}
use Rattle.law_run.proofs.any_calls.loops_return_in_order.Goals as goal

pub returns-clause-first : goal.returns-clause-first
returns-clause-first c = first_rests

pub returns-clause-calls : goal.returns-clause-calls
returns-clause-calls c = calls_loop_back

pub returns-clause-submissions : goal.returns-clause-submissions
returns-clause-submissions c = submissions_loop_back

pub returns-clause-ttis : goal.returns-clause-ttis
returns-clause-ttis c = ttis_loop_back

pub returns-clause-drains : goal.returns-clause-drains
returns-clause-drains c = drains_loop_back
