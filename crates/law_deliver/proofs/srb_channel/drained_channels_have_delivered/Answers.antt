use Rattle.law_deliver.proofs.srb_channel.drained_channels_have_delivered.Goals as goal
use Rattle.law_deliver.proofs.SrbChannel.Laws.{drained_delivers}

pub returns : goal.returns
returns c = drained_delivers
