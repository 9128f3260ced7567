use Rattle.law_given.proofs.Deeds.{deeds_take_alike}
use Rattle.law_given.proofs.laws.deeds_take_alike.Goals as goal

pub returns : goal.returns
returns c = deeds_take_alike
