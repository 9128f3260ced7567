use Rattle.law_account.proofs.FlowSizes.{sizes_alike}
use Rattle.law_account.proofs.laws.accounts_have_sizes_alike.Goals as goal

pub returns : goal.returns
returns c = sizes_alike
