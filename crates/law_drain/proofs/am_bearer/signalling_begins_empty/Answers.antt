use Rattle.law_drain.proofs.Empty.{signalling_begins_empty, signalling_goes_on_empty}
use Rattle.law_drain.proofs.am_bearer.signalling_begins_empty.Goals as goal

pub returns-clause-first : goal.returns-clause-first
returns-clause-first c = signalling_begins_empty

pub returns-clause-next : goal.returns-clause-next
returns-clause-next c = signalling_goes_on_empty
