use Rattle.law_sound.proofs.AgreeJournals.{journals_agree}
use Rattle.law_sound.proofs.laws.journals_agree.Goals as goal

pub returns : goal.returns
returns c = journals_agree
