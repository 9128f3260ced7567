use Rattle.law_drain.proofs.Tied.{sent_is_drained}
use Rattle.law_drain.proofs.am_bearer.sent_is_drained.Goals as goal

pub returns : goal.returns
returns c = sent_is_drained
