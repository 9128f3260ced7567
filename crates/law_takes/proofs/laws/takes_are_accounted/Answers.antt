use Rattle.law_takes.proofs.Taking.{takes_are_accounted}
use Rattle.law_takes.proofs.laws.takes_are_accounted.Goals as goal

pub returns : goal.returns
returns c = takes_are_accounted
