use Rattle.law_account.proofs.Ignored.{flows_ignored}
use Rattle.law_account.proofs.laws.flows_tell_ignored.Goals as goal

pub returns : goal.returns
returns c = flows_ignored
