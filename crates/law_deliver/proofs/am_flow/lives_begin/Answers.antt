use Rattle.law_deliver.proofs.AmFlow.Lives.{adds_begin, moves_begin}
use Rattle.law_deliver.proofs.am_flow.lives_begin.Goals as goal

pub returns-clause-adds : goal.returns-clause-adds
returns-clause-adds c = adds_begin

pub returns-clause-moves : goal.returns-clause-moves
returns-clause-moves c = moves_begin
