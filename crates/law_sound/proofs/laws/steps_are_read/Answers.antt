use Rattle.law_sound.proofs.GroupReading.{groups_are_read}
use Rattle.law_sound.proofs.StepReading.{steps_are_read}
use Rattle.law_sound.proofs.laws.steps_are_read.Goals as goal

pub returns-clause-steps : goal.returns-clause-steps
returns-clause-steps c = steps_are_read

pub returns-clause-groups : goal.returns-clause-groups
returns-clause-groups c = groups_are_read
