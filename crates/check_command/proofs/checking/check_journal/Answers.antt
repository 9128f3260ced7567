use Rattle.check_command.proofs.Rows.{checks}
use Rattle.check_command.proofs.checking.check_journal.Goals as goal

pub returns : goal.returns
returns g c = checks _ _ c.judge-verdict.result c.tell_verdict.result c.judge-verdict.ensures c.tell_verdict.ensures
