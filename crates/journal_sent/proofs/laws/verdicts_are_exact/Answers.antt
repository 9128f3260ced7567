use Rattle.journal_sent.proofs.Exact.{verdicts_are_exact}
use Rattle.journal_sent.proofs.laws.verdicts_are_exact.Goals as goal

pub returns : goal.returns
returns c = verdicts_are_exact
