use Rattle.mac_pdu.proofs.Canonical.{never_both}
use Rattle.mac_pdu.proofs.laws.never_both.Goals as goal

pub returns : goal.returns
returns c = never_both
