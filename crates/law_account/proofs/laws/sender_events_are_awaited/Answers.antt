use Rattle.law_account.proofs.FlowReceiving.{sender_events_awaited}
use Rattle.law_account.proofs.laws.sender_events_are_awaited.Goals as goal

pub returns : goal.returns
returns c = sender_events_awaited
