use Rattle.law_rlc.proofs.AmReceiver.Least.{least}
use Rattle.law_rlc.proofs.AmReceiver.Order.{ordered}
use Rattle.law_rlc.proofs.am_receiver.first_is_least.Goals as goal

pub returns-clause-least : goal.returns-clause-least
returns-clause-least c = least

pub returns-clause-ordered : goal.returns-clause-ordered
returns-clause-ordered c = ordered
