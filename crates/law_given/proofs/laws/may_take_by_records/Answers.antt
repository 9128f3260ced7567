use Rattle.law_given.proofs.BearerRecordsWaits.{may_take_by_records}
use Rattle.law_given.proofs.laws.may_take_by_records.Goals as goal

pub returns : goal.returns
returns c = may_take_by_records
