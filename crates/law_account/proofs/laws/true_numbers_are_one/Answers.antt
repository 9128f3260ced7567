use Rattle.law_account.proofs.TrueStatus.{one_reading}
use Rattle.law_account.proofs.laws.true_numbers_are_one.Goals as goal

pub returns : goal.returns
returns c = one_reading
