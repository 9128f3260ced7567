use Rattle.law_deliver.proofs.srb_channel.channels_deliver_in_sequence.Goals as goal
use Rattle.law_deliver.proofs.SrbChannel.Laws.{delivers_in_sequence}

pub returns : goal.returns
returns c = delivers_in_sequence
