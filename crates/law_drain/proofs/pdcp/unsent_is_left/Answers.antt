use Rattle.law_drain.proofs.Texts.{unsent_is_left}
use Rattle.law_drain.proofs.pdcp.unsent_is_left.Goals as goal

pub returns : goal.returns
returns c = unsent_is_left
