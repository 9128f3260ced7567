use Rattle.journal_flows.proofs.TakenUp.{taken_goes_up}
use Rattle.journal_flows.proofs.laws.taken_goes_up.Goals as goal

pub returns : goal.returns
returns c = taken_goes_up
