-- What waits at a bearer of another mode, over the calls of a drain.
use Rattle.std.proofs.Common.{◌≤◌, ℕ, ◌+◌, ◌-◌, Bool, true, false, if◌then◌else◌, nat_lt, List, [], ◌∷◌}
use Rattle.std.proofs.Common.{length, Option, Some, None, option_map, Result, Ok, Err, arith}
use Rattle.bearer_types.specs.declared.Event.{Event}
use Rattle.l2_types.specs.declared.Clock.{Clock}
use Rattle.l2_types.specs.declared.Clock.TheVariants.{Poll, Reorder, Prohibit}
use Rattle.pdcp_rx.specs.State.{got}
use Rattle.pdcp_rx.specs.declared.Cause.{Cause}
use Rattle.pdcp_rx.specs.declared.Cause.TheVariants.{Arrived}
use Rattle.pdcp_rx.specs.declared.Got.{Got}
use Rattle.pdcp_rx.specs.declared.Got.TheVariants as got_as
use Rattle.pdcp_tx.specs.Runs.{Take as TakePdcp, Report}
use Rattle.pdcp_tx.specs.State.{Offer, offers, reported, taking as taking_next}
use Rattle.pdcp_tx.specs.declared.sender.Next.{Next}
use Rattle.rlc_pdu.specs.declared.Expired.{Expired}
use Rattle.rlc_pdu.specs.declared.Expired.TheVariants.{Done, NotRunning}
use Rattle.rlc_pdu.specs.declared.RlcRefusal.{RlcRefusal}
use Rattle.rlc_pdu.specs.Pdus.{UmdPdu}
use Rattle.rlc_pdu.specs.Reading.{umd_at}
use Rattle.rlc_queue.specs.Waiting.{total}
use Rattle.rlc_queue.proofs.Steps.{octets-push}
use Rattle.rlc_um.specs.Receiver.{State as Receiver, landing, turning, arrival, expiring, expired as receiver_expired}
use Rattle.rlc_um.specs.Sender.{Sender, Turn, Gives, IsIdle, IsHeld, IsSmall, turn, after_turn, head_of, is_hungry}
use Rattle.rlc_um.specs.Sender.{after_take}
use Rattle.rlc_um.specs.Transparent.{Transparent, behind_first, after_take as after_transparent}
use Rattle.bearer_pdcp.specs.Ends.{Ends}
use Rattle.bearer_pdcp.specs.Hearing.{is_for_sender, got_left, with_arrived, after_hearing}
use Rattle.bearer_pdcp.specs.Telling.{landed_told, expired_told}
use Rattle.bearer_pdcp.specs.Taking.{taken as pdcp_taken, after_taking as after_pdcp}
use Rattle.bearer.specs.Hearing.{arrived, expired}
use Rattle.bearer.specs.Taking.{after as taken_from}
use Rattle.bearer.specs.Unacknowledged.Hearing.{Hearing, hears, hears_all, up_left, arrived_left, after_arrival}
use Rattle.bearer.specs.Unacknowledged.Hearing.{expiry_left, clock_left}
use Rattle.bearer.specs.Unacknowledged.Hearing.{after_expiry}
use Rattle.bearer.specs.Unacknowledged.State.{State}
use Rattle.bearer.specs.Unacknowledged.Taking.{Feeding, given_to, fed, feeds, feeding, size_in, answer, after_taking}
use Rattle.bearer.specs.declared.flow.Flow.{Flow}
use Rattle.bearer.specs.declared.flow.Flow.TheVariants.{Tm, Um, Am}
use Rattle.law_bearer.specs.AnyBearer.Calls.{Call, Submit, Take, Arrive, Expire, Tick, SetDiscard, after}
use Rattle.law_drain.specs.Bearer.{IsOfDrain}
use Rattle.law_drain.specs.Others.{waits_in, pieces_of, HaveOctetsIn}
use Rattle.law_drain.specs.Unsent.{unsent}
use Rattle.law_drain.proofs.BearerDues.{octets_of, taking_few}
use Rattle.law_drain.proofs.Queues.{rest_total, unacknowledged_falls, transparent_falls}
use Rattle.law_drain.proofs.Unsent.{unsent_falls}

-- ---- RLC takes what PDCP has

given-few : (o : Option Next) (tx : Sender)
    → total (given_to (option_map (λ (n : Next). n.octets) o) tx).waiting.sdus
    ≤ total tx.waiting.sdus + octets_of o
given-few None tx = omega arith
given-few (Some n) tx = omega (arith, octets-push tx.waiting.sdus n.octets)

abbrev left : Feeding → ℕ
left f = total f.tx.waiting.sdus + unsent f.pdcp.tx

fed-falls : (f : Feeding) → left (fed f) ≤ left f
unfolding pdcp_taken after_pdcp
fed-falls f =
    omega (arith, given-few (taking_next f.pdcp.tx) f.tx, taking_few f.pdcp.tx, unsent_falls f.pdcp.tx TakePdcp)

feeds-fall : (os : List Offer) (size : ℕ) (held : Option ℕ) (f : Feeding) → left (feeds os size held f) ≤ left f
feeds-fall [] size held f = omega arith
feeds-fall (o ∷ os) size held f = by (is_hungry f.tx size held) (feeds-fall os size held (fed f))
  where
    by : (b : Bool) → left (feeds os size held (fed f)) ≤ left (fed f)
        → left (if b then feeds os size held (fed f) else f) ≤ left f
    by true rest' = omega (arith, rest', fed-falls f)
    by false rest' = omega arith

-- ---- a PDU is taken

turn-none : (t : Turn) (s : Sender) (size : ℕ) → total (after_turn t s size).waiting.sdus ≤ total s.waiting.sdus
turn-none Gives s size = omega (arith, rest_total (head_of s.bits) size 0 0 s.waiting.sdus)
turn-none IsIdle s size = omega arith
turn-none IsHeld s size = omega arith
turn-none IsSmall s size = omega arith

take-none : (s : Sender) (size : ℕ) (held : Option ℕ)
    → total (after_take s size held).waiting.sdus ≤ total s.waiting.sdus
unfolding after_take
take-none s size held = turn-none (turn s size held) s size

first-none : (next size : ℕ) (sdus : List (List ℕ)) → total (behind_first next size sdus).waiting ≤ total sdus
first-none next size [] = omega arith
first-none next size (sdu ∷ more) = by (nat_lt size (length sdu))
  where
    behind : Bool → Transparent
    behind b = if b then record { next = next; waiting = sdu ∷ more } else record { next = next + 1; waiting = more }

    by : (b : Bool) → total (behind b).waiting ≤ length sdu + total more
    by true = omega arith
    by false = omega arith

transparent-none : (b : Transparent) (size : ℕ) → total (after_transparent b size).waiting ≤ total b.waiting
unfolding after_transparent
transparent-none b size = first-none b.next size b.waiting

-- ---- what is heard adds nothing

report-none : (b : Bool) (e : Ends) (fms : ℕ) (bitmap : List ℕ)
    → unsent (if b then record e { tx = reported e.tx fms bitmap } else e).tx ≤ unsent e.tx
report-none true e fms bitmap = omega (arith, unsent_falls e.tx (Report fms bitmap))
report-none false e fms bitmap = omega arith

got-none : (g : Got) (cause : Cause) (e : Ends) → unsent (got_left g cause e).tx ≤ unsent e.tx
got-none got_as.Up cause e = omega arith
got-none got_as.Stored cause e = omega arith
got-none got_as.Old cause e = omega arith
got-none got_as.OutOfRange cause e = omega arith
got-none (got_as.Integrity found wanted) cause e = omega arith
got-none (got_as.Report fms bitmap) cause e = report-none (is_for_sender e cause) e fms bitmap
got-none (got_as.Unreadable fault) cause e = omega arith

hearing-none : (sdu : List ℕ) (cause : Cause) (e : Ends) → unsent (after_hearing sdu cause e).tx ≤ unsent e.tx
unfolding after_hearing
hearing-none sdu cause e = got-none (got e.rx sdu cause) cause (with_arrived sdu cause e)

all-none : (sdus : List (List ℕ)) (cause : Cause) (h : Hearing)
    → unsent (hears_all sdus cause h).pdcp.tx ≤ unsent h.pdcp.tx
all-none [] cause h = omega arith
all-none (sdu ∷ sdus) cause h = omega (arith, all-none sdus cause (hears sdu cause h), hearing-none sdu cause h.pdcp)

up-none : (r : Receiver) (told : List Event) (b : State) → waits_in (Um (up_left r told b)) ≤ waits_in (Um b)
up-none r told b = omega (arith, all-none r.joined.ready Arrived (record { pdcp = b.pdcp; events = told }))

arrival-none : (r : Result UmdPdu RlcRefusal) (b : State) → waits_in (Um (arrived_left r b)) ≤ waits_in (Um b)
arrival-none (Err fault) b = omega arith
arrival-none (Ok pdu) b =
    up-none (arrival pdu b.rx) (landed_told b.pdcp.lcid (landing pdu b.rx) (turning pdu b.rx)) b

expiry-none : (x : Expired) (b : State) → waits_in (Um (expiry_left x b)) ≤ waits_in (Um b)
expiry-none NotRunning b = omega arith
expiry-none (Done again) b = up-none (receiver_expired b.rx) (expired_told b.pdcp.lcid Reorder again) b

clock-none : (clock : Clock) (b : State) → waits_in (Um (clock_left clock b)) ≤ waits_in (Um b)
clock-none Poll b = omega arith
clock-none Reorder b = expiry-none (expiring b.rx) b
clock-none Prohibit b = omega arith

-- ---- any call

pub others_never_rise : (f : Flow) (c : Call) → IsOfDrain c → waits_in (after f c) ≤ waits_in f
unfolding taken_from arrived expired after_taking after_arrival after_expiry
others_never_rise f (Submit sdu) h = absurd h
others_never_rise (Tm b) (Take share held) h = transparent-none b (share - 3)
others_never_rise (Um b) (Take share held) h =
    let f = feeding b share held in
    let less = feeds-fall (offers b.pdcp.tx) (size_in share) held (record { pdcp = b.pdcp; tx = b.tx; events = [] }) in
    omega (arith, take-none f.tx (size_in share) held, less)
others_never_rise (Am b) (Take share held) h = omega arith
others_never_rise (Tm b) (Arrive pdu) h = omega arith
others_never_rise (Um b) (Arrive pdu) h = arrival-none (umd_at b.bits pdu) b
others_never_rise (Am b) (Arrive pdu) h = omega arith
others_never_rise (Tm b) (Expire clock) h = omega arith
others_never_rise (Um b) (Expire clock) h = clock-none clock b
others_never_rise (Am b) (Expire clock) h = omega arith
others_never_rise f Tick h = absurd h
others_never_rise f (SetDiscard ttis) h = absurd h

pub others_fall : (f : Flow) (share : ℕ) (held : Option ℕ) → HaveOctetsIn f share held
    → waits_in (after f (Take share held)) + pieces_of f share held ≤ waits_in f
unfolding taken_from after_taking answer
others_fall (Tm b) share held h = transparent_falls b (share - 3) h
others_fall (Um b) share held h =
    let f = feeding b share held in
    let less = feeds-fall (offers b.pdcp.tx) (size_in share) held (record { pdcp = b.pdcp; tx = b.tx; events = [] }) in
    omega (arith, unacknowledged_falls f.tx (size_in share) held h, less)
others_fall (Am b) share held h = omega arith
