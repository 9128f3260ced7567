use Rattle.law_sound.proofs.BesideActs.{acts_are_gathered, ttis_are_gathered}
use Rattle.law_sound.proofs.BesideBuilding.{new_blocks_are_gathered}
use Rattle.law_sound.proofs.BesideComing.{blocks_come}
use Rattle.law_sound.proofs.BesideLives.{bearers_begin, moves_are_gathered, other_lines_leave}
use Rattle.law_sound.proofs.BesideSteps.{steps_are_gathered}
use Rattle.law_sound.proofs.OtherRecords.{other_records_leave}
use Rattle.law_sound.proofs.laws.records_stay_beside.Goals as goal

pub returns-clause-others : goal.returns-clause-others
returns-clause-others c = other_records_leave

pub returns-clause-acts : goal.returns-clause-acts
returns-clause-acts c = acts_are_gathered

pub returns-clause-ttis : goal.returns-clause-ttis
returns-clause-ttis c = ttis_are_gathered

pub returns-clause-blocks : goal.returns-clause-blocks
returns-clause-blocks c = blocks_come

pub returns-clause-builds : goal.returns-clause-builds
returns-clause-builds c = new_blocks_are_gathered

pub returns-clause-begins : goal.returns-clause-begins
returns-clause-begins c = bearers_begin

pub returns-clause-moves : goal.returns-clause-moves
returns-clause-moves c = moves_are_gathered

pub returns-clause-lines : goal.returns-clause-lines
returns-clause-lines c = other_lines_leave

pub returns-clause-steps : goal.returns-clause-steps
returns-clause-steps c = steps_are_gathered
