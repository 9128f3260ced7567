use Rattle.law_given.proofs.SayingCounts.{come_as_handed, begin_beside, given_beside, within_beside, ended_beside}
use Rattle.law_given.proofs.SayingCounts.{begun_alike, say_alike}
use Rattle.law_given.proofs.laws.counts_come_as_handed.Goals as goal

pub returns-clause-directions : goal.returns-clause-directions
returns-clause-directions c = say_alike

pub returns-clause-same : goal.returns-clause-same
returns-clause-same c = come_as_handed

pub returns-clause-begins : goal.returns-clause-begins
returns-clause-begins c = begin_beside

pub returns-clause-given : goal.returns-clause-given
returns-clause-given c = given_beside

pub returns-clause-within : goal.returns-clause-within
returns-clause-within c = within_beside

pub returns-clause-ended : goal.returns-clause-ended
returns-clause-ended c = ended_beside

pub returns-clause-begun : goal.returns-clause-begun
returns-clause-begun c = begun_alike
