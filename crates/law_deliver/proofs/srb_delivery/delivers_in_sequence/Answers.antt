use Rattle.law_deliver.proofs.srb_delivery.delivers_in_sequence.Goals as goal
use Rattle.law_deliver.proofs.SrbDelivery.Sequence.{delivers_in_sequence}

pub returns : goal.returns
returns c = delivers_in_sequence
