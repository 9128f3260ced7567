use Rattle.law_bearer.proofs.AnyBearer.Names.{by_place}
use Rattle.law_bearer.proofs.any_bearer.names_by_place.Goals as goal

pub returns : goal.returns
returns c config keys side steps i o kind at = by_place config keys side steps i o kind at
