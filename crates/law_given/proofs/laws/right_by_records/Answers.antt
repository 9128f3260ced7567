use Rattle.law_given.proofs.BearerRecordsHistories.{right_by_records}
use Rattle.law_given.proofs.laws.right_by_records.Goals as goal

pub returns : goal.returns
returns c = right_by_records
