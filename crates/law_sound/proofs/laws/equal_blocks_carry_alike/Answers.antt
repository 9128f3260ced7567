use Rattle.law_sound.proofs.EqualBlocks.{equal_blocks_carry_alike}
use Rattle.law_sound.proofs.laws.equal_blocks_carry_alike.Goals as goal

pub returns : goal.returns
returns c = equal_blocks_carry_alike
