use Rattle.law_given.proofs.SupplyLives.{supplies_begin}
use Rattle.law_given.proofs.laws.supplies_begin.Goals as goal

pub returns : goal.returns
returns c = supplies_begin
