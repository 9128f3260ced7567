use Rattle.journal_flows.proofs.Groups.{um_flows_are_told}
use Rattle.journal_flows.proofs.laws.um_flows_are_told.Goals as goal

pub returns : goal.returns
returns c = um_flows_are_told
