use Rattle.journal_air.proofs.Groups.{exact}
use Rattle.journal_air.proofs.laws.verdict_is_exact.Goals as goal

pub returns : goal.returns
returns c = exact
