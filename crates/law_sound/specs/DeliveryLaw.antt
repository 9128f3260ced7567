-- What is handed up of acknowledged data in a journal is right, as its checker asks it, where what
-- is promised of it holds.
use Rattle.std.specs.Prelude.{◌≡◌, false, List}
use Rattle.air_text.specs.Groups.{Group}
use Rattle.promises.specs.Arrival.{HandUpWhatCame}
use Rattle.promises.specs.Delivery.{is_forged}
use Rattle.journal_flows.specs.Gathering.{MayTake}
use Rattle.journal_delivered.specs.RightDelivery.{DeliveredIsRight}
use Rattle.law_sound.specs.ComingLaws.{TellsFlows}
use Rattle.promises.specs.WaitingSdus.{SdusWait}

-- where no block was forged
abbrev pub DeliveredFollows : Type 0
DeliveredFollows =
    (may_take : MayTake) (past : List Group) → TellsFlows past → SdusWait past
    → HandUpWhatCame past → is_forged past ≡ false → DeliveredIsRight may_take past
