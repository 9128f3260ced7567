use Rattle.journal_status.proofs.StatusExact.{exact}
use Rattle.journal_status.proofs.laws.verdict_is_exact.Goals as goal

pub returns : goal.returns
returns c = exact
