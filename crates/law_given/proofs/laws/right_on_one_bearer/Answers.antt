use Rattle.law_given.proofs.BearerRecords.{group_right_on_one_bearer, right_on_one_bearer}
use Rattle.law_given.proofs.laws.right_on_one_bearer.Goals as goal

pub returns-clause-groups : goal.returns-clause-groups
returns-clause-groups c = group_right_on_one_bearer

pub returns-clause-journals : goal.returns-clause-journals
returns-clause-journals c = right_on_one_bearer
