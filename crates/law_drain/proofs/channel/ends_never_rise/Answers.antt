use Rattle.law_drain.proofs.Left.{ends_never_rise}
use Rattle.law_drain.proofs.channel.ends_never_rise.Goals as goal

pub returns : goal.returns
returns c = ends_never_rise
