use Rattle.law_rlc.proofs.AmReceiver.Due.{due_where_asked}
use Rattle.law_rlc.proofs.am_receiver.status_is_due_where_asked.Goals as goal

pub returns : goal.returns
returns c = due_where_asked
