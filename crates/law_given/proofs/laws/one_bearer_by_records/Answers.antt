use Rattle.journal_given.specs.Supplies.{accounts, histories, History}
use Rattle.journal_takes.specs.FlowTakes.{FlowTakes}
use Rattle.law_given.proofs.OneBearer.{one_bearer_by_records}
use Rattle.law_given.proofs.laws.one_bearer_by_records.Goals as goal

pub returns-clause-histories : goal.returns-clause-histories
returns-clause-histories c = one_bearer_by_records History histories

pub returns-clause-accounts : goal.returns-clause-accounts
returns-clause-accounts c = one_bearer_by_records FlowTakes accounts
