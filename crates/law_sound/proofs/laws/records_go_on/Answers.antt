use Rattle.law_sound.proofs.RecordedBlocks.{new_records_build, landing_records_bring}
use Rattle.law_sound.proofs.laws.records_go_on.Goals as goal

pub returns-clause-blocks : goal.returns-clause-blocks
returns-clause-blocks c = new_records_build

pub returns-clause-landings : goal.returns-clause-landings
returns-clause-landings c = landing_records_bring
