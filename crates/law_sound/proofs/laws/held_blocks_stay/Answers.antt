use Rattle.law_sound.proofs.HeldBlocks.{held_blocks_stay, held_blocks_age, new_blocks_are_held}
use Rattle.law_sound.proofs.laws.held_blocks_stay.Goals as goal

pub returns-clause-acts : goal.returns-clause-acts
returns-clause-acts c = held_blocks_stay

pub returns-clause-ttis : goal.returns-clause-ttis
returns-clause-ttis c = held_blocks_age

pub returns-clause-builds : goal.returns-clause-builds
returns-clause-builds c = new_blocks_are_held
