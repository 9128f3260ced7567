use Rattle.law_bearer.proofs.AnyBearer.Told.{tells_in_its_order}
use Rattle.law_bearer.proofs.any_bearer.tells_in_its_order.Goals as goal

pub returns : goal.returns
returns c = tells_in_its_order
