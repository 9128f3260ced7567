use Rattle.law_node.proofs.Naming.{names_what_it_sends, tells_what_it_sends}
use Rattle.law_node.proofs.tells_what_it_sends.Goals as goal

pub returns-clause-channels : goal.returns-clause-channels
returns-clause-channels c = tells_what_it_sends

pub returns-clause-names : goal.returns-clause-names
returns-clause-names c = names_what_it_sends
