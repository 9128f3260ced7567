use Rattle.law_deliver.proofs.UmFlow.Calls.{ends_are_their_calls}
use Rattle.law_deliver.proofs.um_flow.ends_are_their_calls.Goals as goal

pub returns : goal.returns
returns c = ends_are_their_calls
