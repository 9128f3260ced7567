use Rattle.law_deliver.proofs.srb_channel.nothing_is_lost.Goals as goal
use Rattle.law_deliver.proofs.SrbChannel.Laws.{loses_none}

pub returns : goal.returns
returns c = loses_none
