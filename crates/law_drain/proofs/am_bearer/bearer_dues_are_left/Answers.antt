use Rattle.law_drain.proofs.Left.{bearer_dues_are_left}
use Rattle.law_drain.proofs.am_bearer.bearer_dues_are_left.Goals as goal

pub returns : goal.returns
returns c = bearer_dues_are_left
