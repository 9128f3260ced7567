use Rattle.journal_um.proofs.Accepting.{drops_below_edge}
use Rattle.journal_um.proofs.laws.drops_below_edge.Goals as goal

pub returns : goal.returns
returns c = drops_below_edge
