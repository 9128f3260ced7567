use Rattle.law_takes.proofs.Deeds.{deeds_are_told}
use Rattle.law_takes.proofs.laws.deeds_are_told.Goals as goal

pub returns : goal.returns
returns c = deeds_are_told
