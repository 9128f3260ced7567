use Rattle.law_sound.proofs.ReorderGathering.{reorderings_gathered, told_is_gathered}
use Rattle.law_sound.proofs.laws.reorderings_are_gathered.Goals as goal

pub returns-clause-records : goal.returns-clause-records
returns-clause-records c = reorderings_gathered

pub returns-clause-all : goal.returns-clause-all
returns-clause-all c = told_is_gathered
