use Rattle.law_takes.proofs.Lives.{lives_are_accounted}
use Rattle.law_takes.proofs.laws.lives_are_accounted.Goals as goal

pub returns : goal.returns
returns c = lives_are_accounted
