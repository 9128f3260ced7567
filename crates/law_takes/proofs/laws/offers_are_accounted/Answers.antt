use Rattle.law_takes.proofs.Turns.{offers_are_accounted}
use Rattle.law_takes.proofs.laws.offers_are_accounted.Goals as goal

pub returns : goal.returns
returns c = offers_are_accounted
