use Rattle.law_drain.proofs.Grants.{one_share_is_even}
use Rattle.law_drain.proofs.grant.one_share_is_even.Goals as goal

pub returns : goal.returns
returns c = one_share_is_even
