use Rattle.law_sound.proofs.Lengths.{taken_are_told}
use Rattle.law_sound.proofs.laws.taken_are_told.Goals as goal

pub returns : goal.returns
returns c = taken_are_told
