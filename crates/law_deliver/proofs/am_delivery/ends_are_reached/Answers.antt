use Rattle.law_deliver.proofs.AmDelivery.Reached.{ends_are_reached}
use Rattle.law_deliver.proofs.am_delivery.ends_are_reached.Goals as goal

pub returns : goal.returns
returns c = ends_are_reached
