use Rattle.law_sound.proofs.Brought.{under_way_brings}
use Rattle.law_sound.proofs.HeardBlocks.{blocks_are_heard}
use Rattle.law_sound.proofs.laws.blocks_are_heard.Goals as goal

pub returns-clause-blocks : goal.returns-clause-blocks
returns-clause-blocks c = blocks_are_heard

pub returns-clause-under_way : goal.returns-clause-under_way
returns-clause-under_way c = under_way_brings
