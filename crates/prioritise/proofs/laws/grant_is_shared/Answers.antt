use Rattle.prioritise.proofs.ShareLemmas.{shared_by}
use Rattle.prioritise.proofs.laws.grant_is_shared.Goals as goal

pub returns : goal.returns
returns c = shared_by
