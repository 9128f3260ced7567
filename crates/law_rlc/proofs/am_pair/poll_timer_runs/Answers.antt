use Rattle.law_rlc.proofs.AmPair.Laws.{poll-timer-runs}
use Rattle.law_rlc.proofs.am_pair.poll_timer_runs.Goals as goal

pub returns : goal.returns
returns c = poll-timer-runs
