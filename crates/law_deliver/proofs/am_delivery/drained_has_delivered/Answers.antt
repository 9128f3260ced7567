use Rattle.law_deliver.proofs.AmDelivery.Laws.{drained_has_delivered}
use Rattle.law_deliver.proofs.am_delivery.drained_has_delivered.Goals as goal

pub returns : goal.returns
returns c = drained_has_delivered
