use Rattle.journal_um.proofs.Losing.{loses_only}
use Rattle.journal_um.proofs.laws.loses_only.Goals as goal

pub returns : goal.returns
returns c = loses_only
