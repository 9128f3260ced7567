use Rattle.law_sound.proofs.LoadedBlocks.{new_blocks_are_loaded}
use Rattle.law_sound.proofs.NamedBlocks.{new_blocks_are_named}
use Rattle.law_sound.proofs.laws.new_blocks_are_loaded.Goals as goal

pub returns-clause-names : goal.returns-clause-names
returns-clause-names c = new_blocks_are_named

pub returns-clause-blocks : goal.returns-clause-blocks
returns-clause-blocks c = new_blocks_are_loaded
