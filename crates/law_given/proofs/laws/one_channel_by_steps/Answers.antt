use Rattle.journal_given.specs.Supplies.{accounts, histories, History}
use Rattle.journal_takes.specs.FlowTakes.{FlowTakes}
use Rattle.law_given.proofs.OneBearer.{one_channel_by_steps}
use Rattle.law_given.proofs.laws.one_channel_by_steps.Goals as goal

pub returns-clause-histories : goal.returns-clause-histories
returns-clause-histories c = one_channel_by_steps History histories

pub returns-clause-accounts : goal.returns-clause-accounts
returns-clause-accounts c = one_channel_by_steps FlowTakes accounts
