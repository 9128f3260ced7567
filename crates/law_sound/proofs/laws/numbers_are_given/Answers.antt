use Rattle.law_sound.proofs.PduNumbers.{numbers_are_given}
use Rattle.law_sound.proofs.laws.numbers_are_given.Goals as goal

pub returns : goal.returns
returns c = numbers_are_given
