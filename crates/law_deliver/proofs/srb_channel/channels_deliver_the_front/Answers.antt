use Rattle.law_deliver.proofs.srb_channel.channels_deliver_the_front.Goals as goal
use Rattle.law_deliver.proofs.SrbChannel.Laws.{delivers_front}

pub returns : goal.returns
returns c = delivers_front
