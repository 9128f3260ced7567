use Rattle.law_drain.proofs.Settled.{bearers_settle, lives_begin_settled, quiet_awaits_poll}
use Rattle.law_drain.proofs.am_bearer.bearers_settle.Goals as goal

pub returns-clause-calls : goal.returns-clause-calls
returns-clause-calls c = bearers_settle

pub returns-clause-begins : goal.returns-clause-begins
returns-clause-begins c = lives_begin_settled

pub returns-clause-awaits : goal.returns-clause-awaits
returns-clause-awaits c = quiet_awaits_poll
