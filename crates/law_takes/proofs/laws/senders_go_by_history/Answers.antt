use Rattle.law_takes.proofs.Deeds.{senders_go_by_history}
use Rattle.law_takes.proofs.laws.senders_go_by_history.Goals as goal

pub returns : goal.returns
returns c = senders_go_by_history
