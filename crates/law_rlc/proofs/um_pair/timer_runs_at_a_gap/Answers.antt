use Rattle.law_rlc.proofs.UmPair.Timed.{is_timed}
use Rattle.law_rlc.proofs.um_pair.timer_runs_at_a_gap.Goals as goal

pub returns : goal.returns
returns c = is_timed
