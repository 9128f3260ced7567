use Rattle.l2_num.proofs.TimerLemmas.{ends-begun}
use Rattle.l2_num.proofs.laws.timer_ends_once.Goals as goal

pub returns : goal.returns
returns c = ends-begun
