use Rattle.law_deliver.proofs.AmChannel.Delivery.{channels_deliver_what_is_taken}
use Rattle.law_deliver.proofs.am_channel.channels_deliver_what_is_taken.Goals as goal

pub returns : goal.returns
returns c = channels_deliver_what_is_taken
