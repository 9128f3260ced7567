use Rattle.law_drain.proofs.Signalling.{signalling_keeps_none, idle_stands_drained}
use Rattle.law_drain.proofs.am_bearer.idle_stands_drained.Goals as goal

pub returns-clause-signalling : goal.returns-clause-signalling
returns-clause-signalling c = signalling_keeps_none

pub returns-clause-any : goal.returns-clause-any
returns-clause-any c = idle_stands_drained
