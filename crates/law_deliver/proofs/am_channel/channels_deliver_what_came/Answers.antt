use Rattle.law_deliver.proofs.am_channel.channels_deliver_what_came.Goals as goal
use Rattle.law_deliver.proofs.AmChannel.Delivery.{channels_deliver_what_came, channels_deliver_what_came_undiscarded}

pub returns-clause-taken : goal.returns-clause-taken
returns-clause-taken c = channels_deliver_what_came

pub returns-clause-submitted : goal.returns-clause-submitted
returns-clause-submitted c = channels_deliver_what_came_undiscarded
