use Rattle.law_drain.proofs.Left.{end_measures_are_left, channels_are_ends}
use Rattle.law_drain.proofs.channel.measures_are_left.Goals as goal

pub returns-clause-ends : goal.returns-clause-ends
returns-clause-ends c = end_measures_are_left

pub returns-clause-channels : goal.returns-clause-channels
returns-clause-channels c = channels_are_ends
