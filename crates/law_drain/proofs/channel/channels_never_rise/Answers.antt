use Rattle.law_drain.proofs.Channels.{channels_never_rise}
use Rattle.law_drain.proofs.channel.channels_never_rise.Goals as goal

pub returns : goal.returns
returns c = channels_never_rise
