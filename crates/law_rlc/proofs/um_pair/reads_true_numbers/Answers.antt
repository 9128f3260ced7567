use Rattle.law_rlc.proofs.UmPair.Air.{read_truly}
use Rattle.law_rlc.proofs.um_pair.reads_true_numbers.Goals as goal

pub returns : goal.returns
returns c = read_truly
