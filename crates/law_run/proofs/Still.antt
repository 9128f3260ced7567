-- What a bearer tells besides the data PDUs that it sends and its failure.
use Rattle.std.proofs.Common.{◌≡◌, ℕ, Bool, true, false, if◌then◌else◌, Option, Some, None, Result, Ok, Err, List, []}
use Rattle.std.proofs.Common.{◌∷◌, length, unwrap_or, refl, ap, ◌∙◌, ◌||◌, ◌==◌, ◌-◌, ◌%◌}
use Rattle.std.specs.List.{list_any}
use Rattle.bearer.specs.Acknowledged.Hearing.{started_told, stopped_told}
use Rattle.bearer.specs.Acknowledged.Taking.{status_told, prohibit_told, writes_status, poll_told, data_told}
use Rattle.bearer.specs.Acknowledged.Timing.{timer_told, told_of}
use Rattle.bearer.specs.Transparent.{data_told as transparent_told, arrived_told as transparent_arrived}
use Rattle.bearer.specs.Unacknowledged.Hearing.{Hearing, hears, hears_all, arrived_told as um_arrived, arriving}
use Rattle.bearer.specs.Unacknowledged.Hearing.{expiry_told, expiry, timed_told, timed_left, counted_down, ticking}
use Rattle.bearer.specs.Unacknowledged.Hearing.{told_of as um_told_of}
use Rattle.bearer.specs.Unacknowledged.State.{State as UmState}
use Rattle.bearer.specs.Unacknowledged.Taking.{Feeding, fed, feeds, feeding, size_in, idle_told, why_idle, has_more}
use Rattle.bearer.specs.Unacknowledged.Taking.{data_told as um_data_told, taking}
use Rattle.bearer_pdcp.specs.Discarding.{late_told, tick_told}
use Rattle.bearer_pdcp.specs.Ends.{Ends}
use Rattle.bearer_pdcp.specs.Hearing.{ups, got_told, heard_told, with_arrived, is_applied}
use Rattle.bearer_pdcp.specs.Taking.{report_told, own_report_told, taken_told, next_told, taking_told}
use Rattle.bearer_pdcp.specs.Telling.{turned_told, landed_told, expired_told}
use Rattle.bearer_types.specs.declared.Event.{Event}
use Rattle.bearer_types.specs.declared.Event.TheVariants as events
use Rattle.l2_num.specs.Timers.{ends}
use Rattle.l2_types.specs.declared.Clock.{Clock}
use Rattle.l2_types.specs.declared.Clock.TheVariants.{Poll, Reorder, Prohibit}
use Rattle.l2_types.specs.declared.How.TheVariants as hows
use Rattle.l2_types.specs.declared.Lost.TheVariants as lost
use Rattle.l2_types.specs.declared.Waits.{Waits}
use Rattle.pdcp_pdu.specs.declared.PdcpKind.{PdcpKind}
use Rattle.pdcp_pdu.specs.declared.PdcpKind.TheVariants as kinds
use Rattle.pdcp_pdu.specs.declared.PdcpRefusal.{PdcpRefusal}
use Rattle.pdcp_pdu.specs.Pdus.{UserPdu, Sdu, Report}
use Rattle.pdcp_pdu.specs.Reading.{user_at}
use Rattle.pdcp_rx.specs.declared.Cause.{Cause}
use Rattle.pdcp_rx.specs.declared.Cause.TheVariants.{Arrived}
use Rattle.pdcp_rx.specs.declared.Got.{Got}
use Rattle.pdcp_rx.specs.declared.Got.TheVariants as got_as
use Rattle.pdcp_rx.specs.State.{got}
use Rattle.pdcp_tx.specs.State.{Offer, offers, State as Sending, is_overdue, after_late, ticked, taking as pdcp_taking}
use Rattle.pdcp_tx.specs.declared.Next.{Next}
use Rattle.rlc_am_rx.specs.State.{State as Receiver}
use Rattle.rlc_am_rx.specs.Status.{ack}
use Rattle.rlc_pdu.specs.declared.Expired.{Expired}
use Rattle.rlc_pdu.specs.declared.Expired.TheVariants.{Done, NotRunning}
use Rattle.rlc_pdu.specs.declared.Landed.{Landed}
use Rattle.rlc_pdu.specs.declared.Landed.TheVariants as lands
use Rattle.rlc_pdu.specs.declared.RlcRefusal.{RlcRefusal}
use Rattle.rlc_pdu.specs.declared.Taken.{Taken}
use Rattle.rlc_pdu.specs.declared.Taken.TheVariants as taken_as
use Rattle.rlc_pdu.specs.declared.Turned.{Turned}
use Rattle.rlc_pdu.specs.Pdus.{UmdPdu}
use Rattle.rlc_pdu.specs.Reading.{umd_at}
use Rattle.rlc_um.specs.Receiver.{landing, turning, arrival, expiring, expired}
use Rattle.rlc_um.specs.Sender.{taken as rlc_taken, is_hungry}
use Rattle.promises.specs.Silent.{is_failure, is_of_sender}
use Rattle.law_run.specs.TwoEnds.SenderLog.{is_of_flow}
use Rattle.prioritise.proofs.ChannelLemmas.{both_false}
use Rattle.law_run.proofs.Quiet.{tell_failure, tell_sender, none_both, still_so}

-- something of the flow of a sender is told
abbrev pub tell_flow : List Event → Bool
tell_flow told = list_any is_of_flow told

sender_so : (e : Event) → is_of_flow e ≡ false → is_of_sender e ≡ false
sender_so (events.Take lcid count len) h = refl
sender_so (events.Report lcid fms bitmap) h = refl
sender_so (events.Expired lcid Poll) h = refl
sender_so (events.Drop lcid lost.Ignored) h = refl
sender_so e h = h

-- then nothing of the sender
pub flow_so : (told : List Event) → tell_flow told ≡ false → tell_sender told ≡ false
flow_so [] h = refl
flow_so (e ∷ told) h =
    let parts = both_false (is_of_flow e) (tell_flow told) h in
    ap (λ (b : Bool). b || tell_sender told) (sender_so e parts.0) ∙ flow_so told parts.1

-- one event, or none
one_if : (test : Event → Bool) (b : Bool) (e : Event) → list_any test (e ∷ []) ≡ false
    → list_any test (if b then e ∷ [] else []) ≡ false
one_if test true e h = h
one_if test false e h = refl

-- ---- PDCP

report_still : (lcid : ℕ) (r : Result UserPdu PdcpRefusal) → tell_sender (report_told lcid r) ≡ false
report_still lcid (Err refusal) = refl
report_still lcid (Ok (Sdu sn octets)) = refl
report_still lcid (Ok (Report fms bitmap)) = refl

own_still : (lcid : ℕ) (kind : PdcpKind) (pdu : List ℕ) → tell_sender (own_report_told lcid kind pdu) ≡ false
own_still lcid kinds.Srb pdu = refl
own_still lcid (kinds.Um bits) pdu = report_still lcid (user_at bits pdu)
own_still lcid (kinds.Am bits) pdu = report_still lcid (user_at bits pdu)

taken_still : (lcid : ℕ) (kind : PdcpKind) (count : Option ℕ) (len : ℕ) (pdu : List ℕ)
    → tell_sender (taken_told lcid kind count len pdu) ≡ false
taken_still lcid kind (Some count) len pdu = refl
taken_still lcid kind None len pdu = own_still lcid kind pdu

next_still : (lcid : ℕ) (kind : PdcpKind) (next' : Option Next) → tell_sender (next_told lcid kind next') ≡ false
next_still lcid kind None = refl
next_still lcid kind (Some n) = taken_still lcid kind n.count n.len n.octets

pub taking_still : (e : Ends) → tell_sender (taking_told e) ≡ false
unfolding taking_told
taking_still e = next_still e.lcid e.kind (pdcp_taking e.tx)

ups_still : (lcid : ℕ) (sdus : List (List ℕ)) → tell_flow (ups lcid sdus) ≡ false
ups_still lcid [] = refl
ups_still lcid (sdu ∷ sdus) = ups_still lcid sdus

unless : (b : Bool) (e : Event) → tell_flow (e ∷ []) ≡ false → tell_flow (if b then [] else e ∷ []) ≡ false
unless true e h = refl
unless false e h = h

got_still : (g : Got) (cause : Cause) (e : Ends) → tell_flow (got_told g cause e) ≡ false
got_still got_as.Up cause e = ups_still e.lcid e.rx.ready
got_still got_as.Stored cause e = ups_still e.lcid e.rx.ready
got_still got_as.Old cause e = refl
got_still got_as.OutOfRange cause e = refl
got_still (got_as.Integrity found wanted) cause e = refl
got_still (got_as.Report fms bitmap) cause e = unless (is_applied e cause fms) (events.Drop e.lcid lost.Report) refl
got_still (got_as.Unreadable fault) cause e = refl

pub heard_still : (pdu : List ℕ) (cause : Cause) (e : Ends) → tell_flow (heard_told pdu cause e) ≡ false
unfolding heard_told
heard_still pdu cause e = got_still (got e.rx pdu cause) cause (with_arrived pdu cause e)

late_by : (b : Bool) (lcid len : ℕ) (told : List Event) → tell_flow told ≡ false
    → tell_flow (if b then events.Discard lcid len ∷ told else []) ≡ false
late_by true lcid len told h = h
late_by false lcid len told h = refl

late_still : (lcid : ℕ) (ws : _) (s : Sending) → tell_flow (late_told lcid ws s) ≡ false
late_still lcid [] s = refl
late_still lcid (w ∷ ws) s = late_by (is_overdue s) lcid (length w.sdu) _ (late_still lcid ws (after_late s))

pub tick_still : (e : Ends) → tell_flow (tick_told e) ≡ false
unfolding tick_told
tick_still e = late_still e.lcid e.tx.waiting (ticked e.tx)

-- ---- RLC

pub turned_still : (lcid : ℕ) (t : Turned) → tell_flow (turned_told lcid t) ≡ false
turned_still lcid t =
    none_both is_of_flow (if t.stopped then events.Stop lcid Reorder ∷ [] else []) _
    (one_if is_of_flow t.stopped (events.Stop lcid Reorder) refl)
    (one_if is_of_flow t.started (events.Start lcid Reorder) refl)

pub landed_still : (lcid : ℕ) (l : Landed) (t : Turned) → tell_flow (landed_told lcid l t) ≡ false
landed_still lcid lands.Kept t = turned_still lcid t
landed_still lcid lands.Repeat t = refl
landed_still lcid lands.Outside t = refl
landed_still lcid lands.Clash t = refl

-- but for the poll timer
pub expired_still : (lcid : ℕ) (clock : Clock) (again : Bool) → (clock ≡ Poll → ⊥)
    → tell_flow (expired_told lcid clock again) ≡ false
expired_still lcid Poll again other = absurd (other refl)
expired_still lcid Reorder again other = one_if is_of_flow again (events.Start lcid Reorder) refl
expired_still lcid Prohibit again other = one_if is_of_flow again (events.Start lcid Prohibit) refl

pub timer_still : (lcid : ℕ) (clock : Clock) (x : Expired) → (clock ≡ Poll → ⊥)
    → tell_flow (told_of (timer_told lcid clock x)) ≡ false
timer_still lcid clock NotRunning other = refl
timer_still lcid clock (Done again) other = expired_still lcid clock again other

-- ---- an acknowledged bearer

pub status_still : (lcid : ℕ) (has : Bool) (r : Receiver) (share : ℕ)
    → tell_flow (status_told lcid has r share) ≡ false
status_still lcid has r share = by_writing (writes_status r share) has
  where
    by_writing : (b has : Bool)
        → tell_flow
        (if b then events.Send lcid hows.Status (ack r (share - 3) % 1024) ∷ prohibit_told lcid has else []) ≡ false
    by_writing true true = refl
    by_writing true false = refl
    by_writing false has = refl

pub started_still : (lcid : ℕ) (b : Bool) → tell_sender (started_told lcid b) ≡ false
started_still lcid b = one_if is_of_sender b (events.Start lcid Poll) refl

pub stopped_still : (lcid : ℕ) (b : Bool) → tell_sender (stopped_told lcid b) ≡ false
stopped_still lcid b = one_if is_of_sender b (events.Stop lcid Poll) refl

poll_unfailing : (lcid : ℕ) (b : Bool) → tell_failure (poll_told lcid b) ≡ false
poll_unfailing lcid true = refl
poll_unfailing lcid false = refl

pub data_unfailing : (lcid : ℕ) (t : Taken) → tell_failure (data_told lcid t) ≡ false
data_unfailing lcid (taken_as.Piece number first polled octets) = poll_unfailing lcid polled
data_unfailing lcid taken_as.Idle = refl
data_unfailing lcid taken_as.Small = refl
data_unfailing lcid taken_as.Shut = refl
data_unfailing lcid taken_as.Held = refl
data_unfailing lcid taken_as.Stopped = refl

-- ---- a transparent one

pub transparent_unfailing : (lcid : ℕ) (t : Taken) → tell_failure (transparent_told lcid t) ≡ false
transparent_unfailing lcid (taken_as.Piece number first polled octets) = refl
transparent_unfailing lcid taken_as.Idle = refl
transparent_unfailing lcid taken_as.Small = refl
transparent_unfailing lcid taken_as.Shut = refl
transparent_unfailing lcid taken_as.Held = refl
transparent_unfailing lcid taken_as.Stopped = refl

up_or_bad : (b : Bool) (x y : Event) → tell_sender (x ∷ []) ≡ false → tell_sender (y ∷ []) ≡ false
    → tell_sender (if b then x ∷ [] else y ∷ []) ≡ false
up_or_bad true x y p q = p
up_or_bad false x y p q = q

pub transparent_still : (lcid : ℕ) (pdu : List ℕ) → tell_sender (transparent_arrived lcid pdu) ≡ false
transparent_still lcid pdu = up_or_bad (length pdu == 0) _ (events.Up lcid pdu) refl refl

-- ---- an unacknowledged one

idle_still : (lcid : ℕ) (more : Bool) (why : Waits) → tell_failure (idle_told lcid more why) ≡ false
idle_still lcid true why = refl
idle_still lcid false why = refl

um_data_unfailing : (lcid bits : ℕ) (more : Bool) (why : Waits) (t : Taken)
    → tell_failure (um_data_told lcid bits more why t) ≡ false
um_data_unfailing lcid bits more why (taken_as.Piece number first polled octets) = refl
um_data_unfailing lcid bits more why taken_as.Idle = idle_still lcid more why
um_data_unfailing lcid bits more why taken_as.Small = refl
um_data_unfailing lcid bits more why taken_as.Shut = refl
um_data_unfailing lcid bits more why taken_as.Held = refl
um_data_unfailing lcid bits more why taken_as.Stopped = refl

fed_still : (f : Feeding) → tell_sender f.events ≡ false → tell_sender (fed f).events ≡ false
fed_still f h = none_both is_of_sender f.events (taking_told f.pdcp) h (taking_still f.pdcp)

feed_by : (b : Bool) (os : List Offer) (size : ℕ) (held : Option ℕ) (f : Feeding) → tell_sender f.events ≡ false
    → ((g : Feeding) → tell_sender g.events ≡ false → tell_sender (feeds os size held g).events ≡ false)
    → tell_sender (if b then feeds os size held (fed f) else f).events ≡ false
feed_by true os size held f h rest = rest (fed f) (fed_still f h)
feed_by false os size held f h rest = h

feeds_still : (os : List Offer) (size : ℕ) (held : Option ℕ) (f : Feeding) → tell_sender f.events ≡ false
    → tell_sender (feeds os size held f).events ≡ false
feeds_still [] size held f h = h
feeds_still (o ∷ os) size held f h = feed_by (is_hungry f.tx size held) os size held f h (feeds_still os size held)

pub um_taking_unfailing : (s : UmState) (share : ℕ) (held : Option ℕ) → tell_failure (taking s share held) ≡ false
unfolding taking
um_taking_unfailing s share held =
    let f = feeding s share held in
    none_both is_failure f.events _
    (still_so f.events (feeds_still (offers s.pdcp.tx) (size_in share) held _ refl))
    (um_data_unfailing f.pdcp.lcid s.bits (has_more f.pdcp) (why_idle f.tx held) (rlc_taken f.tx (size_in share) held))

hears_still : (sdus : List (List ℕ)) (cause : Cause) (h : Hearing) → tell_sender h.events ≡ false
    → tell_sender (hears_all sdus cause h).events ≡ false
hears_still [] cause h none = none
hears_still (sdu ∷ sdus) cause h none =
    hears_still sdus cause (hears sdu cause h)
    (none_both is_of_sender h.events (heard_told sdu cause h.pdcp) none
    (flow_so (heard_told sdu cause h.pdcp) (heard_still sdu cause h.pdcp)))

um_arrived_still : (r : Result UmdPdu RlcRefusal) (s : UmState) → tell_sender (um_arrived r s) ≡ false
um_arrived_still (Err fault) s = refl
um_arrived_still (Ok pdu) s =
    hears_still (arrival pdu s.rx).joined.ready Arrived _
    (flow_so (landed_told s.pdcp.lcid (landing pdu s.rx) (turning pdu s.rx))
    (landed_still s.pdcp.lcid (landing pdu s.rx) (turning pdu s.rx)))

pub um_arriving_still : (s : UmState) (pdu : List ℕ) → tell_sender (arriving s pdu) ≡ false
unfolding arriving
um_arriving_still s pdu = um_arrived_still (umd_at s.bits pdu) s

um_expired_still : (x : Expired) (s : UmState) → tell_sender (um_told_of (expiry_told x s)) ≡ false
um_expired_still NotRunning s = refl
um_expired_still (Done again) s =
    hears_still (expired s.rx).joined.ready Arrived _
    (flow_so (expired_told s.pdcp.lcid Reorder again)
    (expired_still s.pdcp.lcid Reorder again (λ e. let other : Reorder ≡ Poll = e in absurd cc)))

um_clock_still : (s : UmState) (clock : Clock) → tell_sender (um_told_of (expiry s clock)) ≡ false
unfolding expiry
um_clock_still s Poll = refl
um_clock_still s Reorder = um_expired_still (expiring s.rx) s
um_clock_still s Prohibit = refl

none_or_told : (o : Option (List Event)) → unwrap_or o [] ≡ um_told_of o
none_or_told None = refl
none_or_told (Some told) = refl

pub um_expiry_still : (s : UmState) (clock : Clock) → tell_sender (unwrap_or (expiry s clock) []) ≡ false
um_expiry_still s clock = rw (none_or_told (expiry s clock)) (um_clock_still s clock)

timed_still : (b : Bool) (s : UmState) → tell_sender (timed_told b s) ≡ false
timed_still true s = um_clock_still s Reorder
timed_still false s = refl

pub um_ticking_still : (s : UmState) → tell_sender (ticking s) ≡ false
unfolding ticking
um_ticking_still s =
    none_both is_of_sender (timed_told (ends s.rx.clock) (counted_down s)) _
    (timed_still (ends s.rx.clock) (counted_down s))
    (flow_so (tick_told (timed_left (ends s.rx.clock) (counted_down s)).pdcp)
    (tick_still (timed_left (ends s.rx.clock) (counted_down s)).pdcp))
