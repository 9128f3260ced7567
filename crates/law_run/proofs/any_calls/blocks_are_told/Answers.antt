use Rattle.law_run.proofs.AnyCalls.Blocks.{blocks_are_told}
use Rattle.law_run.proofs.any_calls.blocks_are_told.Goals as goal

pub returns : goal.returns
returns c = blocks_are_told
