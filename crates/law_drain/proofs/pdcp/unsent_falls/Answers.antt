use Rattle.law_drain.proofs.Unsent.{unsent_falls}
use Rattle.law_drain.proofs.pdcp.unsent_falls.Goals as goal

pub returns : goal.returns
returns c = unsent_falls
