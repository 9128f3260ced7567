use Rattle.law_sound.proofs.Running.{runs_deliver}
use Rattle.law_sound.proofs.laws.runs_deliver.Goals as goal

pub returns : goal.returns
returns c = runs_deliver
