use Rattle.law_sound.proofs.AirSending.{ends_send_by_air}
use Rattle.law_sound.proofs.laws.ends_send_by_air.Goals as goal

pub returns : goal.returns
returns c = ends_send_by_air
