use Rattle.um_losses.proofs.LastTag.{reads}
use Rattle.um_losses.proofs.laws.tag_is_read.Goals as goal

pub returns : goal.returns
returns c = reads
