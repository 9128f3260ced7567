use Rattle.law_deliver.proofs.AmFlow.Carrying.{numbers_stay}
use Rattle.law_deliver.proofs.am_flow.numbers_stay.Goals as goal

pub returns : goal.returns
returns c = numbers_stay
