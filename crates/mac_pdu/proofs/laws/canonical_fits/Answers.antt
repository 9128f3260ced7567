use Rattle.mac_pdu.proofs.Canonical.{canonical_fits}
use Rattle.mac_pdu.proofs.laws.canonical_fits.Goals as goal

pub returns : goal.returns
returns c = canonical_fits
