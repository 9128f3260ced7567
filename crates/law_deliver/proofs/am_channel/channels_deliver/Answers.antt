use Rattle.law_deliver.proofs.AmChannel.Delivery.{unset_discards_none, channels_deliver}
use Rattle.law_deliver.proofs.am_channel.channels_deliver.Goals as goal

pub returns-clause-unset : goal.returns-clause-unset
returns-clause-unset c = unset_discards_none

pub returns-clause-front : goal.returns-clause-front
returns-clause-front c = channels_deliver
