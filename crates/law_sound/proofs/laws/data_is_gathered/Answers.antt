use Rattle.law_sound.proofs.Gathering.{data_gathered}
use Rattle.law_sound.proofs.laws.data_is_gathered.Goals as goal

pub returns : goal.returns
returns c = data_gathered
