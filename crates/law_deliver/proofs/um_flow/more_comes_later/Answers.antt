use Rattle.law_deliver.proofs.UmFlow.Later.{more_comes_later}
use Rattle.law_deliver.proofs.um_flow.more_comes_later.Goals as goal

pub returns : goal.returns
returns c = more_comes_later
