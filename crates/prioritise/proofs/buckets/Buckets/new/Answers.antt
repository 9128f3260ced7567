use Rattle.prioritise.proofs.ChannelLemmas.{sound_none}
use Rattle.prioritise.proofs.buckets.Buckets.new.Goals as goal

pub invariant_of-result : goal.invariant_of-result
invariant_of-result c = rw c.new.ensures sound_none
