use Rattle.law_sound.proofs.GroupFailures.{runs_fail_rightly}
use Rattle.law_sound.proofs.laws.runs_fail_rightly.Goals as goal

pub returns : goal.returns
returns c = runs_fail_rightly
