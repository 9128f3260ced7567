use Rattle.law_account.proofs.FlowHistory.{flows_are_told}
use Rattle.law_account.proofs.laws.flows_are_told.Goals as goal

pub returns : goal.returns
returns c = flows_are_told
