use Rattle.law_rlc.proofs.UmPair.Read.{reads_numbers}
use Rattle.law_rlc.proofs.um_pair.number_is_read.Goals as goal

pub returns : goal.returns
returns c = reads_numbers
