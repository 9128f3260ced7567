use Rattle.journal_form.proofs.Exact.{exact}
use Rattle.journal_form.proofs.laws.verdict_is_exact.Goals as goal

pub returns : goal.returns
returns c = exact
