use Rattle.law_sound.proofs.Coming.{same_counts_come}
use Rattle.law_sound.proofs.laws.same_counts_come.Goals as goal

pub returns : goal.returns
returns c = same_counts_come
