use Rattle.law_account.proofs.LateStatus.{statuses_written_ahead}
use Rattle.law_account.proofs.laws.statuses_are_written_ahead.Goals as goal

pub returns : goal.returns
returns c = statuses_written_ahead
