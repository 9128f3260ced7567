use Rattle.law_deliver.proofs.AmFlow.Ups.{moves_tell_the_end}
use Rattle.law_deliver.proofs.am_flow.moves_tell_the_end.Goals as goal

pub returns : goal.returns
returns c = moves_tell_the_end
