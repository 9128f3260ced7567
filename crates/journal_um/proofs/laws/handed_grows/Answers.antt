use Rattle.journal_um.proofs.Taking.{handed_grows}
use Rattle.journal_um.proofs.laws.handed_grows.Goals as goal

pub returns : goal.returns
returns c = handed_grows
