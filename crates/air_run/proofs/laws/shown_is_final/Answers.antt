use Rattle.air_run.specs.Run.{fresh}
use Rattle.air_run.specs.Journal.{script}
use Rattle.line_player.proofs.Final.{shown-is-final}
use Rattle.air_run.proofs.laws.shown_is_final.Goals as goal

pub returns : goal.returns
returns c = λ whole octets more shows. shown-is-final script whole fresh 1 octets more shows
