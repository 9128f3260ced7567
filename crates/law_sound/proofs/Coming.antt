-- The same COUNTs have come by both.
use Rattle.promises.specs.Arrival.{account_of}
use Rattle.law_sound.specs.ComingLaws.{SameCountsCome}
use Rattle.law_sound.proofs.Agreeing.{same_come}
use Rattle.law_sound.proofs.Groups.{gathered, all_behind}
use Rattle.law_sound.proofs.Telling.{flow}

pub same_counts_come : SameCountsCome
same_counts_come may_take past h from lcid config low is kind count =
    same_come (account_of config lcid from past) (flow from lcid (gathered may_take past).flows)
    (all_behind may_take from lcid past low h config is kind).stands.agrees count
