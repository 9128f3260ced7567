use Rattle.law_deliver.proofs.srb_delivery.delivers_in_each_life.Goals as goal
use Rattle.law_deliver.proofs.SrbDelivery.Lives.{delivers_in_each_life}

pub returns : goal.returns
returns c = delivers_in_each_life
