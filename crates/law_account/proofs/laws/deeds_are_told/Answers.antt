use Rattle.law_account.proofs.HistoryRuns.{deeds_are_told}
use Rattle.law_account.proofs.laws.deeds_are_told.Goals as goal

pub returns : goal.returns
returns c = deeds_are_told
