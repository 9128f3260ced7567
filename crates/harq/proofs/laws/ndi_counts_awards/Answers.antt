use Rattle.harq.proofs.ReceiveLemmas.{grants_right}
use Rattle.harq.proofs.laws.ndi_counts_awards.Goals as goal

pub returns : goal.returns
returns c = grants_right
