use Rattle.law_node.proofs.Blocks.{has_what_was_written}
use Rattle.law_node.proofs.block_has_what_was_written.Goals as goal

pub returns : goal.returns
returns c = has_what_was_written
