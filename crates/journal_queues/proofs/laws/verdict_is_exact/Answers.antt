use Rattle.journal_queues.proofs.Exact.{exact}
use Rattle.journal_queues.proofs.laws.verdict_is_exact.Goals as goal

pub returns : goal.returns
returns c = exact
