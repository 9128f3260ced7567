use Rattle.law_sound.proofs.GroupTakes.{runs_take_rightly}
use Rattle.law_sound.proofs.laws.runs_take_rightly.Goals as goal

pub returns : goal.returns
returns c = runs_take_rightly
