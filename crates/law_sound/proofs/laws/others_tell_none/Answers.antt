use Rattle.law_sound.proofs.Elsewhere.{none_stands_above, others_tell_none}
use Rattle.law_sound.proofs.ElsewhereRight.{others_are_right}
use Rattle.law_sound.proofs.laws.others_tell_none.Goals as goal

pub returns-clause-channels : goal.returns-clause-channels
returns-clause-channels c = none_stands_above

pub returns-clause-groups : goal.returns-clause-groups
returns-clause-groups c = others_tell_none

pub returns-clause-right : goal.returns-clause-right
returns-clause-right c = others_are_right
