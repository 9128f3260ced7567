use Rattle.law_deliver.proofs.AmDelivery.Laws.{delivers_what_was_submitted}
use Rattle.law_deliver.proofs.am_delivery.delivers_what_was_submitted.Goals as goal

pub returns : goal.returns
returns c = delivers_what_was_submitted
