use Rattle.law_bearer.proofs.AnyBearer.Placing.{in_the_first, in_the_others}
use Rattle.law_bearer.proofs.any_bearer.keeps_places.Goals as goal

pub returns-clause-first : goal.returns-clause-first
returns-clause-first c config keys side kind calls e at = in_the_first config keys side kind calls e at

pub returns-clause-others : goal.returns-clause-others
returns-clause-others c config keys side steps next kind calls e at =
    in_the_others config keys side steps next kind calls e at
