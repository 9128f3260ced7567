use Rattle.law_drain.proofs.Budget.{dues_are_left}
use Rattle.law_drain.proofs.sender.dues_are_left.Goals as goal

pub returns : goal.returns
returns c = dues_are_left
