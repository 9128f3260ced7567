use Rattle.law_rlc.proofs.UmPair.Later.{more_go_up_later}
use Rattle.law_rlc.proofs.um_pair.more_go_up_later.Goals as goal

pub returns : goal.returns
returns c = more_go_up_later
