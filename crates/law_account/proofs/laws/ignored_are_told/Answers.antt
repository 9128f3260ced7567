use Rattle.law_account.proofs.Ignored.{ignored_told}
use Rattle.law_account.proofs.laws.ignored_are_told.Goals as goal

pub returns : goal.returns
returns c = ignored_told
