use Rattle.law_given.proofs.BearerRecordsFlows.{flows_say_on_one_bearer}
use Rattle.law_given.proofs.laws.flows_say_on_one_bearer.Goals as goal

pub returns : goal.returns
returns c = flows_say_on_one_bearer
