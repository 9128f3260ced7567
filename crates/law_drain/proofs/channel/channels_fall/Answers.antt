use Rattle.law_drain.proofs.Falling.{channels_fall}
use Rattle.law_drain.proofs.channel.channels_fall.Goals as goal

pub returns : goal.returns
returns c = channels_fall
