use Rattle.law_takes.proofs.Waiting.{submits_are_accounted}
use Rattle.law_takes.proofs.laws.submits_are_accounted.Goals as goal

pub returns : goal.returns
returns c = submits_are_accounted
