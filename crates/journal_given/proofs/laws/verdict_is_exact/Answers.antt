use Rattle.journal_given.proofs.Exact.{verdict_is_exact}
use Rattle.journal_given.proofs.laws.verdict_is_exact.Goals as goal

pub returns : goal.returns
returns c = verdict_is_exact
