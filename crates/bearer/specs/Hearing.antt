-- A PDU arrives, a timer expires, a TTI begins (TS 36.322 5.1, 7.3, TS 36.323 5.1.2).
use Rattle.std.specs.Prelude.{ℕ, List, [], Option, Some, None}
use Rattle.bearer_types.specs.declared.Event.{Event}
use Rattle.l2_types.specs.declared.Clock.{Clock}
use Rattle.bearer.specs.Unacknowledged.Hearing.{arriving as um_arriving}
use Rattle.bearer.specs.Unacknowledged.Hearing.{after_arrival as um_arrived, expiry as um_expiry}
use Rattle.bearer.specs.Unacknowledged.Hearing.{after_expiry as um_expired, ticking as um_ticking}
use Rattle.bearer.specs.Unacknowledged.Hearing.{after_ticking as um_ticked}
use Rattle.bearer.specs.Acknowledged.Hearing.{arriving as am_arriving, after_arrival as am_arrived}
use Rattle.bearer.specs.Acknowledged.Timing.{expiry as am_expiry, after_expiry as am_expired}
use Rattle.bearer.specs.Acknowledged.Timing.{ticked as am_ticked}
use Rattle.bearer.specs.declared.flow.Flow.{Flow}
use Rattle.bearer.specs.declared.flow.Flow.TheVariants.{Tm, Um, Am}
use Rattle.bearer.specs.Transparent.{arrived_told}

unfoldable pub arriving : ℕ → Flow → List ℕ → List Event
arriving lcid (Tm b) pdu = arrived_told lcid pdu
arriving lcid (Um b) pdu = um_arriving b pdu
arriving lcid (Am b) pdu = am_arriving b pdu

unfoldable pub arrived : Flow → List ℕ → Flow
arrived (Tm b) pdu = Tm b
arrived (Um b) pdu = Um (um_arrived b pdu)
arrived (Am b) pdu = Am (am_arrived b pdu)

-- none where that timer doesn't run
unfoldable pub expiry : Flow → Clock → Option (List Event)
expiry (Tm b) clock = None
expiry (Um b) clock = um_expiry b clock
expiry (Am b) clock = am_expiry b clock

unfoldable pub expired : Flow → Clock → Flow
expired (Tm b) clock = Tm b
expired (Um b) clock = Um (um_expired b clock)
expired (Am b) clock = Am (am_expired b clock)

unfoldable pub ticking : Flow → List Event
ticking (Tm b) = []
ticking (Um b) = um_ticking b
ticking (Am b) = (am_ticked b).events

unfoldable pub ticked : Flow → Flow
ticked (Tm b) = Tm b
ticked (Um b) = Um (um_ticked b)
ticked (Am b) = Am (am_ticked b).bearer

-- the length of discard timers is set; a transparent bearer has none
unfoldable pub with_discard : Flow → ℕ → Flow
with_discard (Tm b) ttis = Tm b
with_discard (Um b) ttis =
    Um (record b { pdcp = record b.pdcp { tx = record b.pdcp.tx { discard = Some ttis } } })
with_discard (Am b) ttis =
    Am (record b { pdcp = record b.pdcp { tx = record b.pdcp.tx { discard = Some ttis } } })
