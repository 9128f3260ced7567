use Rattle.law_drain.proofs.Few.{end_measures_are_few}
use Rattle.law_drain.proofs.channel.measures_are_few.Goals as goal

pub returns : goal.returns
returns c = end_measures_are_few
