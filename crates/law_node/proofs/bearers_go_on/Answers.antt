use Rattle.law_node.proofs.Living.{are_added, go_on}
use Rattle.law_node.proofs.bearers_go_on.Goals as goal

pub returns-clause-added : goal.returns-clause-added
returns-clause-added c = are_added

pub returns-clause-on : goal.returns-clause-on
returns-clause-on c = go_on
