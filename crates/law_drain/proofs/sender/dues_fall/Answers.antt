use Rattle.law_drain.proofs.Dues.{dues_fall}
use Rattle.law_drain.proofs.sender.dues_fall.Goals as goal

pub returns : goal.returns
returns c = dues_fall
