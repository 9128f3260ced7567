use Rattle.law_given.proofs.BearerRecordsWaits.{waits_by_records}
use Rattle.law_given.proofs.laws.waits_by_records.Goals as goal

pub returns : goal.returns
returns c = waits_by_records
