use Rattle.law_given.proofs.BearerRecords.{may_take_by_one_bearer}
use Rattle.law_given.proofs.laws.may_take_by_one_bearer.Goals as goal

pub returns : goal.returns
returns c = may_take_by_one_bearer
