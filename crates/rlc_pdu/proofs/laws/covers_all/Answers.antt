use Rattle.rlc_pdu.proofs.PlaceLaws.{covers_all}
use Rattle.rlc_pdu.proofs.laws.covers_all.Goals as goal

pub returns : goal.returns
returns c = covers_all
