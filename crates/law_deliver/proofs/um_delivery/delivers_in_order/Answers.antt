use Rattle.law_deliver.proofs.UmDelivery.Laws.{delivers_in_order}
use Rattle.law_deliver.proofs.um_delivery.delivers_in_order.Goals as goal

pub returns : goal.returns
returns c = delivers_in_order
