use Rattle.law_sound.proofs.PduNumbers.{new_pdus_are_gathered}
use Rattle.law_sound.proofs.laws.new_pdus_are_gathered.Goals as goal

pub returns : goal.returns
returns c = new_pdus_are_gathered
