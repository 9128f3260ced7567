use Rattle.law_node.proofs.Ordered.{tells_in_its_order}
use Rattle.law_node.proofs.Standing.{stands_in_order, share_by_bearers}
use Rattle.law_node.proofs.tells_in_its_order.Goals as goal

pub returns-clause-calls : goal.returns-clause-calls
returns-clause-calls c = tells_in_its_order

pub returns-clause-places : goal.returns-clause-places
returns-clause-places c = stands_in_order

pub returns-clause-channels : goal.returns-clause-channels
returns-clause-channels c = share_by_bearers
