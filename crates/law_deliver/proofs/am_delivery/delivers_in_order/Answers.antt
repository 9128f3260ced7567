use Rattle.law_deliver.proofs.AmDelivery.Laws.{delivers_what_was_taken}
use Rattle.law_deliver.proofs.am_delivery.delivers_in_order.Goals as goal

pub returns : goal.returns
returns c = delivers_what_was_taken
