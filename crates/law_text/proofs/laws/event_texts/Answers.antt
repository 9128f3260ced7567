use Rattle.law_text.proofs.Events.{back-event}
use Rattle.law_text.proofs.laws.event_texts.Goals as goal

pub returns : goal.returns
returns c = back-event
