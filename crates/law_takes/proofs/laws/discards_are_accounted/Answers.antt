use Rattle.law_takes.proofs.Waiting.{discards_are_accounted}
use Rattle.law_takes.proofs.laws.discards_are_accounted.Goals as goal

pub returns : goal.returns
returns c = discards_are_accounted
