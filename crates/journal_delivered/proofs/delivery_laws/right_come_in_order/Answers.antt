use Rattle.journal_delivered.proofs.InOrder.{come_in_order}
use Rattle.journal_delivered.proofs.delivery_laws.right_come_in_order.Goals as goal

pub returns : goal.returns
returns c = come_in_order
