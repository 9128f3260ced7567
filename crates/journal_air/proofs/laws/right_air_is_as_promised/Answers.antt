use Rattle.journal_air.proofs.Promised.{as_promised}
use Rattle.journal_air.proofs.laws.right_air_is_as_promised.Goals as goal

pub returns : goal.returns
returns c = as_promised
