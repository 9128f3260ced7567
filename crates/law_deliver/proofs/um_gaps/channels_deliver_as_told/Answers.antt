use Rattle.law_deliver.proofs.UmGaps.Delivery.{channels_deliver_as_told}
use Rattle.law_deliver.proofs.um_gaps.channels_deliver_as_told.Goals as goal

pub returns : goal.returns
returns c = channels_deliver_as_told
