use Rattle.journal_takes.proofs.TakesTold.{sdus_stay}
use Rattle.journal_takes.proofs.laws.sdus_stay.Goals as goal

pub returns : goal.returns
returns c = sdus_stay
