use Rattle.law_given.proofs.SupplyLives.{refused_stay}
use Rattle.law_given.proofs.SupplyQuiet.{arrivals_tell_nothing, ends_tell_nothing}
use Rattle.law_given.proofs.laws.arrivals_tell_nothing.Goals as goal

pub returns-clause-arrivals : goal.returns-clause-arrivals
returns-clause-arrivals c = arrivals_tell_nothing

pub returns-clause-ends : goal.returns-clause-ends
returns-clause-ends c = ends_tell_nothing

pub returns-clause-refused : goal.returns-clause-refused
returns-clause-refused c = refused_stay
