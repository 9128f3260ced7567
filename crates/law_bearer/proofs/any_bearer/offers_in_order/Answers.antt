use Rattle.law_bearer.proofs.AnyBearer.Streams.{offers_in_order}
use Rattle.law_bearer.proofs.any_bearer.offers_in_order.Goals as goal

pub returns : goal.returns
returns c config keys side steps calls = offers_in_order config keys side steps calls
