use Rattle.journal_failure.proofs.Exact.{exact}
use Rattle.journal_failure.proofs.laws.verdict_is_exact.Goals as goal

pub returns : goal.returns
returns c = exact
