use Rattle.journal_flows.proofs.Numbers.{own_number}
use Rattle.journal_flows.proofs.laws.numbers_are_own.Goals as goal

pub returns : goal.returns
returns c = own_number
