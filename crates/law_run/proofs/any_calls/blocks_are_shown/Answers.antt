use Rattle.law_run.proofs.AnyCalls.Named.{blocks_are_shown}
use Rattle.law_run.proofs.any_calls.blocks_are_shown.Goals as goal

pub returns : goal.returns
returns c = blocks_are_shown
