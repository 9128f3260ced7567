use Rattle.law_sound.proofs.Gathering.{events_gathered}
use Rattle.law_sound.proofs.laws.events_are_gathered.Goals as goal

pub returns : goal.returns
returns c = events_gathered
