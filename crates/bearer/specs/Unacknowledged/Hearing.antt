-- What a bearer hears (TS 36.322 5.1.2.2, 7.3, TS 36.323 5.1.2): a PDU, a timer's expiry, the
-- beginning of a TTI.
use Rattle.std.specs.Prelude.{ℕ, Bool, if◌then◌else◌, List, [], ◌∷◌, ◌++◌, Option, Some, None}
use Rattle.std.specs.Prelude.{Result, Ok, Err}
use Rattle.bearer_types.specs.declared.Event.{Event}
use Rattle.bearer_types.specs.declared.Event.TheVariants as events
use Rattle.l2_num.specs.Timers.{ends}
use Rattle.l2_types.specs.declared.Clock.{Clock}
use Rattle.l2_types.specs.declared.Clock.TheVariants.{Poll, Reorder, Prohibit}
use Rattle.pdcp_rx.specs.declared.Cause.{Cause}
use Rattle.pdcp_rx.specs.declared.Cause.TheVariants.{Arrived}
use Rattle.rlc_pdu.specs.declared.Expired.{Expired}
use Rattle.rlc_pdu.specs.declared.Expired.TheVariants.{Done, NotRunning}
use Rattle.rlc_pdu.specs.declared.RlcRefusal.{RlcRefusal}
use Rattle.rlc_pdu.specs.Pdus.{UmdPdu}
use Rattle.rlc_pdu.specs.Reading.{umd_at}
use Rattle.rlc_um.specs.Receiver.{State as Receiver, landing, turning, arrival, expiring, expired}
use Rattle.rlc_um.specs.Receiver.{counted}
use Rattle.bearer_pdcp.specs.Ends.{Ends}
use Rattle.bearer_pdcp.specs.Hearing.{heard_told, after_hearing}
use Rattle.bearer_pdcp.specs.Discarding.{after_tick, tick_told}
use Rattle.bearer_pdcp.specs.Telling.{landed_told, expired_told}
use Rattle.bearer.specs.Unacknowledged.State.{State}

-- ---- SDUs that RLC hands up go to PDCP, one after the other

pub record Hearing : Type 0 where
  pub pdcp : Ends
  pub events : List Event

abbrev pub hears : List ℕ → Cause → Hearing → Hearing
hears sdu cause h = record {
  pdcp = after_hearing sdu cause h.pdcp;
  events = h.events ++ heard_told sdu cause h.pdcp;
}

abbrev pub hears_all : List (List ℕ) → Cause → Hearing → Hearing
hears_all [] cause h = h
hears_all (sdu ∷ sdus) cause h = hears_all sdus cause (hears sdu cause h)

abbrev pub all_handed : Receiver → Receiver
all_handed r = record r { joined = record r.joined { ready = [] } }

-- all that a receiver has ready goes up
abbrev pub handing : Receiver → Ends → List Event → Hearing
handing r pdcp told = hears_all r.joined.ready Arrived (record { pdcp = pdcp; events = told })

abbrev pub up_left : Receiver → List Event → State → State
up_left r told s = record s { rx = all_handed r; pdcp = (handing r s.pdcp told).pdcp }

abbrev pub up_told : Receiver → List Event → State → List Event
up_told r told s = (handing r s.pdcp told).events

-- ---- a PDU arrives

abbrev pub arrived_told : Result UmdPdu RlcRefusal → State → List Event
arrived_told (Err fault) s = events.BadRlc s.pdcp.lcid fault ∷ []
arrived_told (Ok pdu) s =
    up_told (arrival pdu s.rx) (landed_told s.pdcp.lcid (landing pdu s.rx) (turning pdu s.rx)) s

abbrev pub arrived_left : Result UmdPdu RlcRefusal → State → State
arrived_left (Err fault) s = s
arrived_left (Ok pdu) s =
    up_left (arrival pdu s.rx) (landed_told s.pdcp.lcid (landing pdu s.rx) (turning pdu s.rx)) s

unfoldable pub arriving : State → List ℕ → List Event
arriving s pdu = arrived_told (umd_at s.bits pdu) s

unfoldable pub after_arrival : State → List ℕ → State
after_arrival s pdu = arrived_left (umd_at s.bits pdu) s

-- ---- the reordering timer expires; no other runs

abbrev pub expiry_told : Expired → State → Option (List Event)
expiry_told NotRunning s = None
expiry_told (Done again) s =
    Some (up_told (expired s.rx) (expired_told s.pdcp.lcid Reorder again) s)

abbrev pub expiry_left : Expired → State → State
expiry_left NotRunning s = s
expiry_left (Done again) s = up_left (expired s.rx) (expired_told s.pdcp.lcid Reorder again) s

abbrev pub clock_told : Clock → State → Option (List Event)
clock_told Poll s = None
clock_told Reorder s = expiry_told (expiring s.rx) s
clock_told Prohibit s = None

abbrev pub clock_left : Clock → State → State
clock_left Poll s = s
clock_left Reorder s = expiry_left (expiring s.rx) s
clock_left Prohibit s = s

unfoldable pub expiry : State → Clock → Option (List Event)
expiry s clock = clock_told clock s

unfoldable pub after_expiry : State → Clock → State
after_expiry s clock = clock_left clock s

-- ---- a TTI begins: the reordering timer, then the discard timers

abbrev pub told_of : Option (List Event) → List Event
told_of None = []
told_of (Some told) = told

abbrev pub counted_down : State → State
counted_down s = record s { rx = counted s.rx }

abbrev pub timed_told : Bool → State → List Event
timed_told b s = if b then told_of (expiry s Reorder) else []

abbrev pub timed_left : Bool → State → State
timed_left b s = if b then after_expiry s Reorder else s

abbrev pub discards : State → State
discards s = record s { pdcp = after_tick s.pdcp }

unfoldable pub ticking : State → List Event
ticking s = timed_told (ends s.rx.clock) (counted_down s)
    ++ tick_told (timed_left (ends s.rx.clock) (counted_down s)).pdcp

unfoldable pub after_ticking : State → State
after_ticking s = discards (timed_left (ends s.rx.clock) (counted_down s))
