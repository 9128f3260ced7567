use Rattle.law_sound.proofs.Delivering.{delivered_follows}
use Rattle.law_sound.proofs.laws.delivered_follows.Goals as goal

pub returns : goal.returns
returns c = delivered_follows
