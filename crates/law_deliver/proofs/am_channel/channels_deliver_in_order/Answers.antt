use Rattle.law_deliver.proofs.AmChannel.Delivery.{channels_deliver_in_order}
use Rattle.law_deliver.proofs.am_channel.channels_deliver_in_order.Goals as goal

pub returns : goal.returns
returns c = channels_deliver_in_order
