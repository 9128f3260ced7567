use Rattle.law_sound.proofs.Gathering.{true_status_gathered}
use Rattle.law_sound.proofs.laws.true_status_is_gathered.Goals as goal

pub returns : goal.returns
returns c = true_status_gathered
