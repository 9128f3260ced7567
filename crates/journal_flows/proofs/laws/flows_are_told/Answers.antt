use Rattle.journal_flows.proofs.Groups.{flows_are_told}
use Rattle.journal_flows.proofs.laws.flows_are_told.Goals as goal

pub returns : goal.returns
returns c = flows_are_told
