use Rattle.law_sound.proofs.AirBlocks.{blocks_bring_one}
use Rattle.law_sound.proofs.AirHearing.{lives_begin, ends_hear_by_air}
use Rattle.law_sound.proofs.laws.ends_hear_by_air.Goals as goal

pub returns-clause-lives : goal.returns-clause-lives
returns-clause-lives c = lives_begin

pub returns-clause-hearing : goal.returns-clause-hearing
returns-clause-hearing c = ends_hear_by_air

pub returns-clause-blocks : goal.returns-clause-blocks
returns-clause-blocks c = blocks_bring_one
