use Rattle.law_sound.proofs.Hearings.{reorderings_are_events, receivers_go_on_over}
use Rattle.law_sound.proofs.laws.reorderings_are_events.Goals as goal

pub returns-clause-events : goal.returns-clause-events
returns-clause-events c = reorderings_are_events

pub returns-clause-ends : goal.returns-clause-ends
returns-clause-ends c = receivers_go_on_over
