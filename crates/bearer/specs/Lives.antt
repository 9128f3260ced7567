-- The end of a life and the beginning of the next (TS 36.322 5.4, TS 36.323 5.2). A transparent
-- bearer drops what waits.
use Rattle.std.specs.Prelude.{List, []}
use Rattle.bearer_types.specs.declared.Event.{Event}
use Rattle.eps_sec.specs.declared.Keys.{Keys}
use Rattle.rlc_um.specs.Transparent.{nothing_submitted}
use Rattle.bearer.specs.Unacknowledged.Lives.{stopped as um_stopped, stopping as um_stopping}
use Rattle.bearer.specs.Unacknowledged.Lives.{restarted as um_restarted}
use Rattle.bearer.specs.Acknowledged.Lives.{stopped as am_stopped, stopping as am_stopping}
use Rattle.bearer.specs.Acknowledged.Lives.{restarted as am_restarted}
use Rattle.bearer.specs.declared.flow.Flow.{Flow}
use Rattle.bearer.specs.declared.flow.Flow.TheVariants.{Tm, Um, Am}
use Rattle.bearer.specs.declared.flow.StoppedFlow.{StoppedFlow}
use Rattle.bearer.specs.declared.flow.StoppedFlow.TheVariants as stops

unfoldable pub stopped : Flow → StoppedFlow
stopped (Tm b) = stops.Tm
stopped (Um b) = stops.Um (um_stopped b)
stopped (Am b) = stops.Am (am_stopped b)

unfoldable pub stopping : Flow → List Event
stopping (Tm b) = []
stopping (Um b) = um_stopping b
stopping (Am b) = am_stopping b

unfoldable pub restarted : StoppedFlow → Keys → Flow
restarted stops.Tm keys = Tm nothing_submitted
restarted (stops.Um b) keys = Um (um_restarted b keys)
restarted (stops.Am b) keys = Am (am_restarted b keys)
