use Rattle.law_takes.proofs.Confirming.{confirmed_stays}
use Rattle.law_takes.proofs.laws.confirmed_stays.Goals as goal

pub returns : goal.returns
returns c = confirmed_stays
