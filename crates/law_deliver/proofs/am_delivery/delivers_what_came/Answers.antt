use Rattle.law_deliver.proofs.am_delivery.delivers_what_came.Goals as goal
use Rattle.law_deliver.proofs.AmDelivery.Laws.{what_came_is_delivered}

pub returns : goal.returns
returns c = λ config keys nb ue steps alike given. what_came_is_delivered config keys nb ue steps alike given
