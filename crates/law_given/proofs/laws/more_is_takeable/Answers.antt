use Rattle.law_given.proofs.Supplied.{given_are_offered, more_is_takeable}
use Rattle.law_given.proofs.laws.more_is_takeable.Goals as goal

pub returns-clause-given : goal.returns-clause-given
returns-clause-given c = given_are_offered

pub returns-clause-more : goal.returns-clause-more
returns-clause-more c = more_is_takeable
