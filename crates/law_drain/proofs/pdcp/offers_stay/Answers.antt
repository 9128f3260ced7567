use Rattle.law_drain.proofs.Offering.{offers_stay}
use Rattle.law_drain.proofs.pdcp.offers_stay.Goals as goal

pub returns : goal.returns
returns c = offers_stay
