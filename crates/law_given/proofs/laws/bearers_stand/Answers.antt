use Rattle.journal_given.specs.Supplies.{accounts, histories, History}
use Rattle.journal_takes.specs.FlowTakes.{FlowTakes}
use Rattle.law_given.proofs.BearerRecordsStand.{bearers_stand}
use Rattle.law_given.proofs.laws.bearers_stand.Goals as goal

pub returns-clause-histories : goal.returns-clause-histories
returns-clause-histories c = bearers_stand History histories

pub returns-clause-accounts : goal.returns-clause-accounts
returns-clause-accounts c = bearers_stand FlowTakes accounts
