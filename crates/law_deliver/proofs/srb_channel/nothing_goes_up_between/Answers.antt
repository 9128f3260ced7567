use Rattle.law_deliver.proofs.srb_channel.nothing_goes_up_between.Goals as goal
use Rattle.law_deliver.proofs.SrbChannel.Laws.{nothing_between}

pub returns : goal.returns
returns c = nothing_between
