use Rattle.mac_pdu.proofs.Spell.{grows}
use Rattle.mac_pdu.proofs.laws.writing_grows.Goals as goal

pub returns : goal.returns
returns c = grows
