use Rattle.law_takes.proofs.Deeds.{runs_are_told}
use Rattle.law_takes.proofs.laws.runs_are_told.Goals as goal

pub returns : goal.returns
returns c = runs_are_told
