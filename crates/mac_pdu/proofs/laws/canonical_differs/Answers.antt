use Rattle.mac_pdu.proofs.Canonical.{differs}
use Rattle.mac_pdu.proofs.laws.canonical_differs.Goals as goal

pub returns : goal.returns
returns c = differs
