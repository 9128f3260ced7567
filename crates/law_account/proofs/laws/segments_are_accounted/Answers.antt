use Rattle.law_account.proofs.Sending.{segments_accounted}
use Rattle.law_account.proofs.laws.segments_are_accounted.Goals as goal

pub returns : goal.returns
returns c = segments_accounted
