use Rattle.law_run.proofs.DrainTtis.Expiring.{loops_off, timers_expire}
use Rattle.law_run.proofs.drain_ttis.timers_expire_once.Goals as goal

pub returns-clause-loops : goal.returns-clause-loops
returns-clause-loops c = loops_off

pub returns-clause-timers : goal.returns-clause-timers
returns-clause-timers c = timers_expire
