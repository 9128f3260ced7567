use Rattle.law_rlc.proofs.AmReceiver.Reading.{read_bring_some}
use Rattle.law_rlc.proofs.AmReceiver.TrueStatus.{true_status}
use Rattle.law_rlc.proofs.am_receiver.status_is_true.Goals as goal

pub returns-clause-read : goal.returns-clause-read
returns-clause-read c = read_bring_some

pub returns-clause-status : goal.returns-clause-status
returns-clause-status c = true_status
