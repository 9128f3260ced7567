use Rattle.law_deliver.proofs.AmFlow.Reordering.{bearers_tell}
use Rattle.law_deliver.proofs.am_flow.bearers_tell_reordering.Goals as goal

pub returns : goal.returns
returns c = bearers_tell
