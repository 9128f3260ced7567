use Rattle.law_sound.proofs.CallHearing.{bearers_hear_over, ends_hear_calls}
use Rattle.law_sound.proofs.laws.ends_hear_calls.Goals as goal

pub returns-clause-calls : goal.returns-clause-calls
returns-clause-calls c = bearers_hear_over

pub returns-clause-hearing : goal.returns-clause-hearing
returns-clause-hearing c = ends_hear_calls
