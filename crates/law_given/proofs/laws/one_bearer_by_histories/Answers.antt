use Rattle.law_given.proofs.BearerRecordsHistories.{one_bearer_by_histories}
use Rattle.law_given.proofs.laws.one_bearer_by_histories.Goals as goal

pub returns : goal.returns
returns c = one_bearer_by_histories
