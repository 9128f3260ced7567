use Rattle.um_losses.proofs.Alike.{hear_alike}
use Rattle.um_losses.proofs.laws.tags_are_heard_alike.Goals as goal

pub returns : goal.returns
returns c = hear_alike
