use Rattle.law_given.proofs.BearerRecordsFlows.{landed_by_histories}
use Rattle.law_given.proofs.laws.landed_by_histories.Goals as goal

pub returns : goal.returns
returns c = landed_by_histories
