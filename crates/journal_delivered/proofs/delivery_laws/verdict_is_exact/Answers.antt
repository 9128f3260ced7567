use Rattle.journal_delivered.proofs.Exact.{exact}
use Rattle.journal_delivered.proofs.delivery_laws.verdict_is_exact.Goals as goal

pub returns : goal.returns
returns c = exact
