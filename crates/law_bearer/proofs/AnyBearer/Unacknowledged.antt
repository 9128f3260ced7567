-- Calls of a bearer over unacknowledged RLC, as steps of PDCP's sender.
use Rattle.std.proofs.Common.{◌≡◌, ℕ, Bool, true, false, List, [], ◌∷◌}
use Rattle.std.proofs.Common.{Option, Result, Ok, Err, refl}
use Rattle.bearer_types.specs.declared.Event.{Event}
use Rattle.l2_num.specs.Timers.{ends}
use Rattle.l2_types.specs.declared.Clock.{Clock}
use Rattle.l2_types.specs.declared.Clock.TheVariants.{Poll, Reorder, Prohibit}
use Rattle.pdcp_rx.specs.declared.Cause.{Cause}
use Rattle.eps_sec.specs.declared.Keys.{Keys}
use Rattle.pdcp_rx.specs.declared.Cause.TheVariants.{Arrived, Reestablished}
use Rattle.pdcp_tx.specs.State.{Offer, offers}
use Rattle.rlc_pdu.specs.declared.Expired.{Expired}
use Rattle.rlc_pdu.specs.declared.Expired.TheVariants.{Done, NotRunning}
use Rattle.rlc_pdu.specs.declared.RlcRefusal.{RlcRefusal}
use Rattle.rlc_pdu.specs.Pdus.{UmdPdu}
use Rattle.rlc_pdu.specs.Reading.{umd_at}
use Rattle.rlc_um.specs.Sender.{is_hungry}
use Rattle.rlc_um.specs.Receiver.{State as Receiver, landing, turning, arrival, expiring, expired, all_joined}
use Rattle.bearer_pdcp.specs.Lives.{restarted as restarted_pdcp}
use Rattle.bearer_pdcp.specs.Discarding.{after_tick}
use Rattle.bearer_pdcp.specs.Telling.{landed_told, expired_told}
use Rattle.bearer.specs.Unacknowledged.State.{State}
use Rattle.bearer.specs.Unacknowledged.Taking.{Feeding, given_to, fed, feeds, feeding, size_in, after_taking}
use Rattle.bearer.specs.Unacknowledged.Hearing.{Hearing, hears, hears_all, up_left, arrived_left, after_arrival}
use Rattle.bearer.specs.Unacknowledged.Hearing.{expiry_left, clock_left, after_expiry, counted_down, timed_left}
use Rattle.bearer.specs.Unacknowledged.Hearing.{after_ticking}
use Rattle.bearer.specs.Unacknowledged.Lives.{stopped, restarted}
use Rattle.law_bearer.specs.AnyBearer.Stream.{um_offered}
use Rattle.law_bearer.proofs.AnyBearer.Sender.{nothing}
use Rattle.law_bearer.proofs.AnyBearer.Feeding.{Fed as FedOf, all_fed}
use Rattle.law_bearer.proofs.AnyBearer.Parts.{Passed, rests, passed_then}
use Rattle.law_bearer.proofs.AnyBearer.Parts.{hearing_moves, Ended, ends_as, ended_then, last_one}

-- ---- RLC takes PDUs

-- so many are fed
abbrev pub Fed : List Offer → Feeding → Feeding → Type 0
Fed os w v = FedOf given_to um_offered os w.pdcp v.pdcp w.tx v.tx

pub all_fed_in : (s : State) (share : ℕ) (held : Option ℕ)
    → Fed (offers s.pdcp.tx) (record { pdcp = s.pdcp; tx = s.tx; events = [] }) (feeding s share held)
all_fed_in s share held =
    all_fed given_to um_offered (λ tx. refl) (λ pdu pdus tx. refl) (λ (w : Feeding). w.pdcp) (λ (w : Feeding). w.tx)
    (λ (w : Feeding). is_hungry w.tx (size_in share) held) fed (λ w. refl) (λ w. refl)
    (λ (os : List Offer) (w : Feeding). feeds os (size_in share) held w) (λ w. refl) (λ o os w. refl)
    (offers s.pdcp.tx) (record { pdcp = s.pdcp; tx = s.tx; events = [] }) refl

pub take_left : (s : State) (share : ℕ) (held : Option ℕ)
    → (after_taking s share held).pdcp ≡ (feeding s share held).pdcp
unfolding after_taking
take_left s share held = refl

-- ---- a PDU arrives

hears_move : (sdus : List (List ℕ)) (cause : Cause) (h : Hearing) → Passed h.pdcp (hears_all sdus cause h).pdcp nothing
hears_move [] cause h = rests h.pdcp
hears_move (sdu ∷ sdus) cause h =
    passed_then h.pdcp (hears sdu cause h).pdcp (hears_all sdus cause (hears sdu cause h)).pdcp nothing nothing
    (hearing_moves sdu cause h.pdcp) (hears_move sdus cause (hears sdu cause h))

up_moves : (r : Receiver) (told : List Event) (s : State) → Passed s.pdcp (up_left r told s).pdcp nothing
up_moves r told s = hears_move r.joined.ready Arrived (record { pdcp = s.pdcp; events = told })

arrival_by : (r : Result UmdPdu RlcRefusal) (s : State) → Passed s.pdcp (arrived_left r s).pdcp nothing
arrival_by (Err fault) s = rests s.pdcp
arrival_by (Ok pdu) s = up_moves (arrival pdu s.rx) (landed_told s.pdcp.lcid (landing pdu s.rx) (turning pdu s.rx)) s

pub arrival_moves : (s : State) (pdu : List ℕ) → Passed s.pdcp (after_arrival s pdu).pdcp nothing
unfolding after_arrival
arrival_moves s pdu = arrival_by (umd_at s.bits pdu) s

-- ---- timers

expiry_by : (e : Expired) (s : State) → Passed s.pdcp (expiry_left e s).pdcp nothing
expiry_by NotRunning s = rests s.pdcp
expiry_by (Done again) s = up_moves (expired s.rx) (expired_told s.pdcp.lcid Reorder again) s

clock_moves : (clock : Clock) (s : State) → Passed s.pdcp (clock_left clock s).pdcp nothing
clock_moves Poll s = rests s.pdcp
clock_moves Reorder s = expiry_by (expiring s.rx) s
clock_moves Prohibit s = rests s.pdcp

pub expiry_moves : (s : State) (clock : Clock) → Passed s.pdcp (after_expiry s clock).pdcp nothing
unfolding after_expiry
expiry_moves s clock = clock_moves clock s

timed_moves : (b : Bool) (s : State) → Passed s.pdcp (timed_left b s).pdcp nothing
timed_moves true s = expiry_moves s Reorder
timed_moves false s = rests s.pdcp

-- before the discard timers count
abbrev pub timed : State → State
timed s = timed_left (ends s.rx.clock) (counted_down s)

pub before_discards : (s : State) → Passed s.pdcp (timed s).pdcp nothing
before_discards s = timed_moves (ends s.rx.clock) (counted_down s)

pub ticked_is : (s : State) → (after_ticking s).pdcp ≡ after_tick (timed s).pdcp
unfolding after_ticking
ticked_is s = refl

-- ---- the end of a life and the beginning of the next

last_ended : (sdus : List (List ℕ)) (h : Hearing) → Ended h.pdcp (hears_all sdus Reestablished h).pdcp
last_ended [] h = ends_as h.pdcp
last_ended (sdu ∷ sdus) h =
    ended_then h.pdcp (hears sdu Reestablished h).pdcp (hears_all sdus Reestablished (hears sdu Reestablished h)).pdcp
    (last_one sdu h.pdcp)
    (last_ended sdus (hears sdu Reestablished h))

pub stop_ends : (s : State) → Ended s.pdcp (stopped s).pdcp
unfolding stopped
stop_ends s = last_ended (all_joined s.rx) (record { pdcp = s.pdcp; events = [] })

pub restart_is : (s : State) (keys : Keys) → (restarted (stopped s) keys).pdcp ≡ restarted_pdcp (stopped s).pdcp keys
unfolding restarted
restart_is s keys = refl
