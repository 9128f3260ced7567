use Rattle.law_drain.proofs.Paying.{writers_pay}
use Rattle.law_drain.proofs.am_bearer.writers_pay.Goals as goal

pub returns : goal.returns
returns c = writers_pay
