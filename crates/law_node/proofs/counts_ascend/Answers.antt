use Rattle.law_node.proofs.Living.{counts_ascend}
use Rattle.law_node.proofs.counts_ascend.Goals as goal

pub returns : goal.returns
returns c = counts_ascend
