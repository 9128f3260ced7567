use Rattle.law_pdcp.proofs.AmPair.InStep.{begins_in_step}
use Rattle.law_pdcp.proofs.am_pair.lives_begin_in_step.Goals as goal

pub returns : goal.returns
returns c = begins_in_step
