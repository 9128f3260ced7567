use Rattle.law_takes.proofs.Confirming.{confirms_are_accounted}
use Rattle.law_takes.proofs.laws.confirms_are_accounted.Goals as goal

pub returns : goal.returns
returns c = confirms_are_accounted
