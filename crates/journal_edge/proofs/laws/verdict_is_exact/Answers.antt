use Rattle.journal_edge.proofs.Exact.{verdict_exact}
use Rattle.journal_edge.proofs.laws.verdict_is_exact.Goals as goal

pub returns : goal.returns
returns c = verdict_exact
