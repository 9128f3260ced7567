use Rattle.harq.proofs.SendLemmas.{counts_blocks}
use Rattle.harq.proofs.laws.ndi_counts_blocks.Goals as goal

pub returns : goal.returns
returns c = counts_blocks
