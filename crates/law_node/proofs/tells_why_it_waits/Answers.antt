use Rattle.law_node.proofs.Telling.{tells_in_order}
use Rattle.law_node.proofs.Waiting.{tells_why}
use Rattle.law_node.proofs.tells_why_it_waits.Goals as goal

pub returns-clause-bearer : goal.returns-clause-bearer
returns-clause-bearer c = tells_why

pub returns-clause-block : goal.returns-clause-block
returns-clause-block c = tells_in_order
