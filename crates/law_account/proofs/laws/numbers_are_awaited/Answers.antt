use Rattle.law_account.proofs.Receiving.{numbers_awaited}
use Rattle.law_account.proofs.laws.numbers_are_awaited.Goals as goal

pub returns : goal.returns
returns c = numbers_awaited
