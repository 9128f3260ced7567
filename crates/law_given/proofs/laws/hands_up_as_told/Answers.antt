use Rattle.law_given.proofs.ConfirmingUps.{hands_up_as_told}
use Rattle.law_given.proofs.laws.hands_up_as_told.Goals as goal

pub returns : goal.returns
returns c = hands_up_as_told
