use Rattle.rlc_pdu.proofs.PlaceLaws.{gaps_are_first}
use Rattle.rlc_pdu.proofs.laws.gaps_are_first.Goals as goal

pub returns : goal.returns
returns c = gaps_are_first
