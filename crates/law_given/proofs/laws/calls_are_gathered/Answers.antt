use Rattle.law_given.proofs.Supplying.{calls_are_gathered}
use Rattle.law_given.proofs.laws.calls_are_gathered.Goals as goal

pub returns : goal.returns
returns c = calls_are_gathered
