use Rattle.law_sound.proofs.Statuses.{statuses_gathered}
use Rattle.law_sound.proofs.laws.statuses_are_gathered.Goals as goal

pub returns : goal.returns
returns c = statuses_gathered
