use Rattle.law_deliver.proofs.UmDelivery.Laws.{delivers_what_came}
use Rattle.law_deliver.proofs.um_delivery.delivers_what_came.Goals as goal

pub returns : goal.returns
returns c = delivers_what_came
