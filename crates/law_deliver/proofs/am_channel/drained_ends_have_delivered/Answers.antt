use Rattle.law_deliver.proofs.AmChannel.Drained.{drained_ends_have_delivered}
use Rattle.law_deliver.proofs.am_channel.drained_ends_have_delivered.Goals as goal

pub returns : goal.returns
returns c = drained_ends_have_delivered
