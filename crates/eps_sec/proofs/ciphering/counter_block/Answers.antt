use Rattle.eps_sec.specs.Modes.{counter_block}
use Rattle.eps_sec.proofs.ciphering.counter_block.Goals as goal

pub returns : goal.returns
unfolding counter_block
returns c = c.to_be_bytes.ensures
