-- An acknowledged bearer settles in each of its calls, so that the poll timer of a quiet one runs.
use Rattle.std.proofs.Common.{◌≡◌, ℕ, zero, suc, ◌-◌, ◌==◌, Bool, true, false, ◌&&◌}
use Rattle.std.proofs.Common.{if◌then◌else◌, List, [], ◌∷◌, ◌++◌, map, take, length, length-append, Option, Some, None}
use Rattle.std.proofs.Common.{Result, Ok, Err, refl, ap, sym, subst, ◌∙◌, arith, nat_lt}
use Rattle.std.proofs.lemmas.Bool.Decides.{nat_tests}
use Rattle.std.proofs.lemmas.Grind.{common_steps}
use Rattle.std.specs.Prelude.{is_some, slice_get, option_map}
use Rattle.bearer_types.specs.declared.Event.{Event}
use Rattle.bearer_types.specs.declared.Event.TheVariants as events
use Rattle.l2_num.specs.Timers.{Clock as TimerClock, runs, counted, ticked as timer_ticked}
use Rattle.l2_types.specs.declared.Clock.{Clock}
use Rattle.l2_types.specs.declared.Clock.TheVariants.{Poll, Reorder, Prohibit}
use Rattle.bearer.specs.Acknowledged.Hearing.{settled_if, heard_work, hears, hears_all, confirms}
use Rattle.bearer.specs.Acknowledged.Hearing.{all_confirmed, status_work, heard_status, arrived_left, after_arrival}
use Rattle.bearer.specs.Acknowledged.State.{State, has_more, Work, work}
use Rattle.bearer.specs.Acknowledged.Taking.{given_to, fed, feeds, feeding, data_size, after_taking, status_told}
use Rattle.bearer.specs.Acknowledged.Taking.{has_prohibit}
use Rattle.bearer.specs.Acknowledged.Timing.{Ticking, clock_left, after_expiry, expires_if, counts, has_ended, ticks}
use Rattle.bearer.specs.Acknowledged.Timing.{discards, ticked as am_ticked}
use Rattle.bearer.specs.Hearing.{arrived, expired, ticked, with_discard}
use Rattle.bearer.specs.Submitting.{submitted}
use Rattle.bearer.specs.Taking.{after as taken_from}
use Rattle.bearer.specs.declared.flow.Flow.TheVariants.{Am}
use Rattle.bearer_pdcp.specs.Discarding.{without_late, late_told, after_tick, tick_told}
use Rattle.bearer_pdcp.specs.Ends.{Ends}
use Rattle.bearer_pdcp.specs.Hearing.{got_left, got_applied, with_arrived, after_hearing, applies, is_for_sender}
use Rattle.bearer_pdcp.specs.Taking.{taken, after_taking as after_pdcp}
use Rattle.bearer_pdcp.specs.Telling.{landed_told}
use Rattle.pdcp_rx.specs.State.{got}
use Rattle.pdcp_rx.specs.declared.Cause.TheVariants.{Arrived}
use Rattle.pdcp_rx.specs.declared.Got.{Got}
use Rattle.pdcp_rx.specs.declared.Got.TheVariants as got_as
use Rattle.pdcp_tx_store.specs.declared.given.Sent.{Sent}
use Rattle.pdcp_tx_store.specs.Waiting.{Waits}
use Rattle.pdcp_tx.specs.State.{State as Sending, Offer, offers, owed_offers, again_offer, new_offers, taking, written}
use Rattle.pdcp_tx.specs.State.{submitted as pdcp_submitted, reported, reported_from, fms_count, ticked as pdcp_ticked}
use Rattle.pdcp_tx.specs.State.{is_overdue, after_late}
use Rattle.pdcp_tx.specs.declared.sender.Next.{Next}
use Rattle.rlc_am_rx.specs.Machine.{landed, turned, arrived as rx_arrived}
use Rattle.rlc_am_tx.specs.declared.turn.Turn.{Turn}
use Rattle.rlc_am_tx.specs.declared.turn.Turn.TheVariants as turns
use Rattle.rlc_am_tx.specs.declared.answers.Heard.TheVariants as heard_as
use Rattle.rlc_am_tx.specs.Machine.{State as Sender, waits, is_empty, is_quiet, is_wanted, with_poll, polled}
use Rattle.rlc_am_tx.specs.Machine.{sent_whole, sent_segment, sent_new, turn, after_turn, settles, settled, settled_by}
use Rattle.rlc_am_tx.specs.Machine.{with_timer, is_ignored, limit_of, stops, read, ended, heard_of, applied}
use Rattle.rlc_am_tx.specs.Machine.{after_status}
use Rattle.rlc_am_tx.specs.Machine.{heard, after_expiry as after_poll, after_tick as sender_ticked, failed_of}
use Rattle.rlc_am_tx_window.specs.Window.{offset_of}
use Rattle.rlc_am_tx_window.specs.Sent.{Sent as Slot}
use Rattle.rlc_pdu.specs.declared.fault.RlcRefusal.{RlcRefusal}
use Rattle.rlc_pdu.specs.Pdus.{AcknowledgedPdu, StatusPdu, Payload, Status}
use Rattle.rlc_pdu.specs.Reading.{am_at}
use Rattle.law_rlc.specs.AmSender.Namings.{Marks, unmarked, marks_after}
use Rattle.law_rlc.specs.AmSender.Run.{Tick as TickSender, after as after_call}
use Rattle.law_rlc.specs.AmSender.Watched.{IsWatched}
use Rattle.law_bearer.specs.AnyBearer.Calls.{Call, Submit, Take, Arrive, Expire, Tick, SetDiscard, after}
use Rattle.law_bearer.specs.AmBearer.Deeds.{does_all}
use Rattle.law_bearer.specs.AmBearer.Sending.{sends_in}
use Rattle.law_drain.specs.Bearer.{bearer_quiet}
use Rattle.law_drain.specs.Ends.{HasLived, Stands}
use Rattle.law_drain.specs.Quiet.{is_waiting, quiet}
use Rattle.law_drain.specs.Settled.{HasSettled}
use Rattle.law_drain.proofs.BearerDues.{deeds-fall, marks_along}
use Rattle.law_drain.proofs.Come.{HasCome, come-then}
use Rattle.law_drain.proofs.FlowRound.{turns-quiet}
use Rattle.law_drain.proofs.Quiet.{parts-of, joined}

-- ---- where the timer is still to be started

record Starts (s : Sender) (more : Bool) : Type 0 where
  idle : more ≡ false
  empty : is_empty s ≡ true
  still : waits s ≡ false
  some : (length s.window.slots == 0) ≡ false
  going : s.failed ≡ false
  stopped : runs s.polls.timer ≡ false

starts : (s : Sender) (more : Bool) → settles s more ≡ true → Starts s more
unfolding settles
starts s more e = record {
  idle = grind (arith, common_steps, e);
  empty = grind (arith, common_steps, e);
  still = grind (arith, common_steps, e);
  some = grind (arith, common_steps, e);
  going = grind (arith, common_steps, e);
  stopped = grind (arith, common_steps, e);
}

refuted : (b : Bool) → (b ≡ true → ⊥) → b ≡ false
refuted true h = absurd (h refl)
refuted false h = refl

none-starts : (s : Sender) (more : Bool) → (Starts s more → ⊥) → settles s more ≡ false
none-starts s more h = refuted (settles s more) (λ e. h (starts s more e))

on-off : (b : Bool) → b ≡ true → b ≡ false → ⊥
on-off b p q = let no' : true ≡ false = sym p ∙ q in cc

running-rests : (s : Sender) (more : Bool) → runs s.polls.timer ≡ true → settles s more ≡ false
running-rests s more e = none-starts s more (λ x. on-off (runs s.polls.timer) e x.stopped)

-- where PDCP has nothing more it is started the sooner
later-rests : (s : Sender) (before more : Bool) → (before ≡ true → more ≡ true) → settles s before ≡ false
    → settles s more ≡ false
later-rests s before true h e = none-starts s true (λ x. on-off true refl x.idle)
later-rests s true false h e = let no' : false ≡ true = h refl in absurd cc
later-rests s false false h e = e

-- ---- what settles

settled-rests : (s : Sender) (more : Bool) → settles (settled s more) more ≡ false
settled-rests s more = by (settles s more) refl
  where
    by : (b : Bool) → settles s more ≡ b → settles (settled_by b s) more ≡ false
    by true e = running-rests (with_timer s) more refl
    by false e = e

quiet-of : (s : Sender) (more : Bool) → Starts s more → is_quiet s more ≡ true
quiet-of s more x = rw (x.still, x.empty, x.idle) refl

wanted-of : (s : Sender) (more : Bool) → is_quiet s more ≡ true → is_wanted s more ≡ true
wanted-of s more e = grind (arith, common_steps, e)

polled-rests : (s : Sender) (more : Bool) → settles (polled s more) more ≡ false
polled-rests s more = by (is_wanted s more) refl
  where
    by : (b : Bool) → is_wanted s more ≡ b → settles (with_poll b s) more ≡ false
    by true e = running-rests (with_poll true s) more refl
    by false e =
        none-starts s more (λ x. on-off (is_wanted s more) (wanted-of s more (quiet-of s more x)) e)

turn-rests : (t : Turn) (s : Sender) (size : ℕ) (more : Bool) → settles s more ≡ false
    → settles (after_turn t s size more) more ≡ false
unfolding after_turn
turn-rests turns.Whole s size more e = polled-rests (sent_whole s) more
turn-rests turns.Part s size more e = polled-rests (sent_segment s size) more
turn-rests turns.New s size more e = polled-rests (sent_new s size) more
turn-rests turns.Idle s size more e = e
turn-rests turns.Stopped s size more e = e
turn-rests turns.Small s size more e = e
turn-rests turns.Shut s size more e = e
turn-rests turns.Held s size more e = e

-- ---- a bearer writes

abbrev Rests : Work → Type 0
Rests w = settles w.tx (has_more w.pdcp) ≡ false

filled-rests : (s : Sender) (pdu : List ℕ) (more : Bool) → settles (given_to (Some pdu) s) more ≡ false
filled-rests s pdu more =
    let some : (length (s.queue.sdus ++ pdu ∷ []) == 0) ≡ false =
    grind (arith, nat_tests, length-append s.queue.sdus (pdu ∷ [])) in
    none-starts (given_to (Some pdu) s) more (λ x. on-off (is_empty (given_to (Some pdu) s)) x.empty some)

taken-none : (e : Ends) → taken e ≡ None → has_more e ≡ false
unfolding taken taking
taken-none e h = by (slice_get (offers e.tx) 0) h
  where
    by : (o : Option Offer)
        → option_map (λ (n : Next). n.octets)
        (option_map (λ (x : Offer). written e.tx.kind e.tx.protection x.count x.text) o)
        ≡ None
        → is_some o ≡ false
    by None q = refl
    by (Some x) q = ap (λ (y : Option (List ℕ)). is_some y) q

given-rests : (o : Option (List ℕ)) (s : Sender) (more : Bool) → (o ≡ None → settles s more ≡ false)
    → settles (given_to o s) more ≡ false
given-rests None s more h = h refl
given-rests (Some pdu) s more h = filled-rests s pdu more

fed-rests : (w : Work) → Rests w → Rests (fed w)
fed-rests w h =
    given-rests (taken w.pdcp) w.tx (has_more (after_pdcp w.pdcp))
    (λ none. later-rests w.tx false (has_more (after_pdcp w.pdcp)) (λ no. absurd cc)
    (subst (λ (m : Bool). settles w.tx m ≡ false) (taken-none w.pdcp none) h))

feeds-rest : (os : List Offer) (size : ℕ) (held : Option ℕ) (w : Work) → Rests w → Rests (feeds os size held w)
feeds-rest [] size held w h = h
feeds-rest (o ∷ os) size held w h = by _ (feeds-rest os size held (fed w) (fed-rests w h))
  where
    by : (b : Bool) → Rests (feeds os size held (fed w)) → Rests (if b then feeds os size held (fed w) else w)
    by true more = more
    by false more = h

take-rests : (b : State) (share : ℕ) (held : Option ℕ) → HasSettled (Am b)
    → HasSettled (Am (after_taking b share held))
unfolding after_taking
take-rests b share held h =
    let w = feeding b share held in
    let size = data_size b share in
    turn-rests (turn w.tx size held (has_more w.pdcp)) w.tx size (has_more w.pdcp)
    (feeds-rest (offers b.pdcp.tx) size held
    (work b.pdcp b.tx (status_told b.pdcp.lcid (has_prohibit b) b.rx share)) h)

-- ---- a data PDU comes: a report that isn't applied leaves PDCP's sender

unapplied : (sdu : List ℕ) (e : Ends) → applies sdu Arrived e ≡ false → (after_hearing sdu Arrived e).tx ≡ e.tx
unfolding applies after_hearing reported
unapplied sdu e h = by (got e.rx sdu Arrived) h
  where
    x : Ends
    x = with_arrived sdu Arrived e

    report : (f : Bool) (o : Option ℕ) (bitmap : List ℕ) → (f && is_some o) ≡ false
        → (if f then record x { tx = reported_from o x.tx bitmap } else x).tx ≡ e.tx
    report true None bitmap q = refl
    report true (Some n) bitmap q = absurd cc
    report false o bitmap q = refl

    by : (g : Got) → got_applied g Arrived (with_arrived sdu Arrived e) ≡ false
        → (got_left g Arrived (with_arrived sdu Arrived e)).tx ≡ e.tx
    by got_as.Up q = refl
    by got_as.Stored q = refl
    by got_as.Old q = refl
    by got_as.OutOfRange q = refl
    by (got_as.Integrity found wanted) q = refl
    by (got_as.Report fms bitmap) q =
        report (is_for_sender x Arrived) (fms_count x.tx.kind x.tx.base fms) bitmap q
    by (got_as.Unreadable fault) q = refl

one-rests : (b : Bool) (sdu : List ℕ) (w : Work) → applies sdu Arrived w.pdcp ≡ b → Rests w
    → Rests (settled_if b (heard_work sdu w))
one-rests true sdu w e h = settled-rests w.tx (has_more (after_hearing sdu Arrived w.pdcp))
one-rests false sdu w e h =
    ap (λ (s : Sending). settles w.tx (is_some (slice_get (offers s) 0))) (unapplied sdu w.pdcp e) ∙ h

hears-rest : (sdus : List (List ℕ)) (w : Work) → Rests w → Rests (hears_all sdus w)
hears-rest [] w h = h
hears-rest (sdu ∷ sdus) w h =
    hears-rest sdus (hears sdu w) (one-rests (applies sdu Arrived w.pdcp) sdu w refl h)

-- ---- a STATUS comes

told-rests : (l : Option ℕ) (stopped' : Bool) (r : Sender) (e : Ends)
    → Rests (status_work (heard_of l stopped') (work (confirms (ended l stopped' r).accounts.news e)
    (all_confirmed (ended l stopped' r)) []))
told-rests (Some sn) stopped' r e =
    none-starts (all_confirmed (failed_of r)) (has_more (confirms r.accounts.news e))
    (λ x. on-off true refl x.going)
told-rests None stopped' r e =
    settled-rests (all_confirmed (ended None stopped' r)) (has_more (confirms (ended None stopped' r).accounts.news e))

confirmed-same : (s : Sender) (more : Bool) → settles (all_confirmed s) more ≡ settles s more
unfolding settles
confirmed-same s more = refl

status-rests : (p : StatusPdu) (b : State) → b.tx.accounts.news ≡ [] → HasSettled (Am b) → Rests (heard_status p b)
unfolding heard after_status
status-rests p b none h = by (is_ignored b.tx p.ack)
  where
    below : ℕ
    below = offset_of b.tx.window.base p.ack

    by : (i : Bool)
        → Rests (status_work (if i then heard_as.Ignored
        else heard_of (limit_of b.tx (offset_of b.tx.window.base p.ack) p.nacks)
        (stops b.tx (offset_of b.tx.window.base p.ack) p.nacks))
        (work (confirms (if i then b.tx else applied b.tx (offset_of b.tx.window.base p.ack) p.nacks).accounts.news
        b.pdcp)
        (all_confirmed (if i then b.tx else applied b.tx (offset_of b.tx.window.base p.ack) p.nacks)) []))
    by true =
        confirmed-same b.tx (has_more (confirms b.tx.accounts.news b.pdcp))
        ∙ ap (λ (places : List ℕ). settles b.tx (has_more (confirms places b.pdcp))) none ∙ h
    by false =
        told-rests (limit_of b.tx below p.nacks) (stops b.tx below p.nacks) (read b.tx below p.nacks) b.pdcp

arrival-rests : (r : Result AcknowledgedPdu RlcRefusal) (b : State) → b.tx.accounts.news ≡ [] → HasSettled (Am b)
    → HasSettled (Am (arrived_left r b))
arrival-rests (Err fault) b none h = h
arrival-rests (Ok (Payload p)) b none h =
    hears-rest (rx_arrived b.rx p).out.ready
    (work b.pdcp b.tx (landed_told b.pdcp.lcid (landed b.rx p) (turned b.rx p))) h
arrival-rests (Ok (Status p)) b none h = status-rests p b none h

-- ---- the poll timer expires

poll-rests : (s : Sender) (m : Marks) (more : Bool) → HasCome s m → settles s more ≡ false
    → settles (after_poll s more) more ≡ false
unfolding after_poll
poll-rests s m more come h = by (runs s.polls.timer) refl
  where
    stays : runs s.polls.timer ≡ false → after_poll s more ≡ s
    stays e = rw e refl

    by : (b : Bool) → runs s.polls.timer ≡ b → settles (after_poll s more) more ≡ false
    by true e =
        let none = (turns-quiet (record { state = s; past = m }) more come).ends e in
        none-starts (after_poll s more) more (λ x. waits-none x none)
      where
        waits-none : Starts (after_poll s more) more → quiet (after_poll s more) more ≡ 0 → ⊥
        waits-none x none =
            let waiting : is_waiting (after_poll s more) more ≡ true =
            joined (after_poll s more) more (record {
              failed = x.going;
              some = grind (arith, nat_tests, x.some);
              still = x.still;
              rest = rw (x.empty, x.idle) refl;
            }) in
            let one : quiet (after_poll s more) more ≡ 1 = rw waiting refl in
            absurd (omega (arith, one, none))
    by false e = ap (λ (t : Sender). settles t more) (stays e) ∙ h

clock-rests : (clock : Clock) (b : State) (m : Marks) → HasCome b.tx m → HasSettled (Am b)
    → HasSettled (Am (clock_left clock b))
clock-rests Poll b m come h = poll-rests b.tx m (has_more b.pdcp) come h
clock-rests Reorder b m come h = h
clock-rests Prohibit b m come h = h

-- ---- a TTI begins

ticked-runs : (c : TimerClock) → runs (timer_ticked c) ≡ runs c
ticked-runs c = by c.left
  where
    by : (o : Option ℕ) → is_some (counted o) ≡ is_some o
    by None = refl
    by (Some n) = refl

ticked-same : (s : Sender) (more : Bool) → settles (sender_ticked s) more ≡ settles s more
unfolding settles
ticked-same s more = rw (ticked-runs s.polls.timer) refl

-- t-PollRetransmit counts, and expires where it ends
poll-ticks : (b : State) (m : Marks) → HasCome b.tx m → HasSettled (Am b)
    → HasSettled (Am (ticks Poll (record { bearer = b; events = [] })).bearer)
unfolding after_expiry
poll-ticks b m come h = by (has_ended Poll b)
  where
    x : State
    x = counts Poll b

    rests : HasSettled (Am x)
    rests = ticked-same b.tx (has_more b.pdcp) ∙ h

    next : HasCome x.tx (marks_after b.tx TickSender m)
    next = come-then (TickSender ∷ []) b.tx (after_call b.tx TickSender) m (marks_after b.tx TickSender m) come
        (tt, tt) refl

    by : (e : Bool) → HasSettled (Am (expires_if e Poll (record { bearer = counts Poll b; events = [] })).bearer)
    by true = clock-rests Poll x (marks_after b.tx TickSender m) next rests
    by false = rests

-- the other two leave RLC's sender and PDCP
record SameSenders (b d : State) : Type 0 where
  tx : d.tx ≡ b.tx
  pdcp : d.pdcp ≡ b.pdcp

same-rests : (b d : State) → SameSenders b d → HasSettled (Am b) → HasSettled (Am d)
same-rests b d e h =
    ap (λ (s : Sender). settles s (has_more d.pdcp)) e.tx ∙ ap (λ (p : Ends). settles b.tx (has_more p)) e.pdcp ∙ h

reorder-ticks : (t : Ticking) → SameSenders t.bearer (ticks Reorder t).bearer
unfolding after_expiry
reorder-ticks t = by (has_ended Reorder t.bearer)
  where
    by : (e : Bool) → SameSenders t.bearer (expires_if e Reorder (record t { bearer = counts Reorder t.bearer })).bearer
    by true = record { tx = refl; pdcp = refl }
    by false = record { tx = refl; pdcp = refl }

prohibit-ticks : (t : Ticking) → SameSenders t.bearer (ticks Prohibit t).bearer
unfolding after_expiry
prohibit-ticks t = by (has_ended Prohibit t.bearer)
  where
    by : (e : Bool)
        → SameSenders t.bearer (expires_if e Prohibit (record t { bearer = counts Prohibit t.bearer })).bearer
    by true = record { tx = refl; pdcp = refl }
    by false = record { tx = refl; pdcp = refl }

-- where none is discarded PDCP has as much to give
none-late : (lcid : ℕ) (ws : List Waits) (s : Sending) → late_told lcid ws s ≡ [] → without_late ws s ≡ s
none-late lcid [] s e = refl
none-late lcid (w ∷ ws) s e =
    by (is_overdue s) (events.Discard lcid (length w.sdu)) (late_told lcid ws (after_late s))
    (without_late ws (after_late s)) e
  where
    by : (b : Bool) (x : Event) (xs : List Event) (t : Sending) → (if b then x ∷ xs else []) ≡ []
        → (if b then t else s) ≡ s
    by true x xs t q = absurd cc
    by false x xs t q = refl

empty-told : (told : List Event) → nat_lt 0 (length told) ≡ false → told ≡ []
empty-told [] e = refl
empty-told (x ∷ xs) e =
    let some : nat_lt 0 (length (x ∷ xs)) ≡ true = grind (arith, nat_tests) in
    let no' : true ≡ false = sym some ∙ e in
    cc

discards-rest : (t : Ticking) → HasSettled (Am t.bearer) → HasSettled (Am (discards t).bearer)
unfolding after_tick tick_told offers
discards-rest t h = by (nat_lt 0 (length (tick_told t.bearer.pdcp))) refl
  where
    none : tick_told t.bearer.pdcp ≡ [] → has_more (after_tick t.bearer.pdcp) ≡ has_more t.bearer.pdcp
    none e =
        ap (λ (s : Sending). is_some (slice_get (offers s) 0))
        (none-late t.bearer.pdcp.lcid t.bearer.pdcp.tx.waiting (pdcp_ticked t.bearer.pdcp.tx) e)

    by : (b : Bool) → nat_lt 0 (length (tick_told t.bearer.pdcp)) ≡ b
        → Rests (settled_if b (work (after_tick t.bearer.pdcp) t.bearer.tx (t.events ++ tick_told t.bearer.pdcp)))
    by true e = settled-rests t.bearer.tx (has_more (after_tick t.bearer.pdcp))
    by false e = ap (settles t.bearer.tx) (none (empty-told (tick_told t.bearer.pdcp) e)) ∙ h

tick-rests : (b : State) (m : Marks) → HasCome b.tx m → HasSettled (Am b) → HasSettled (Am (am_ticked b).bearer)
unfolding am_ticked
tick-rests b m come h =
    let x = ticks Poll (record { bearer = b; events = [] }) in
    let y = ticks Reorder x in
    let z = ticks Prohibit y in
    discards-rest z
    (same-rests y.bearer z.bearer (prohibit-ticks y)
    (same-rests x.bearer y.bearer (reorder-ticks x) (poll-ticks b m come h)))

-- ---- an SDU is submitted, discard timers are set

more-waits : (o : Option (List ℕ)) (ss : List Sent) (n k : ℕ) (ws : List Waits) (w : Waits)
    → is_some (slice_get (owed_offers o ++ map again_offer ss ++ new_offers n (take k ws)) 0) ≡ true
    → is_some (slice_get (owed_offers o ++ map again_offer ss ++ new_offers n (take k (ws ++ w ∷ []))) 0) ≡ true
more-waits (Some report) ss n k ws w e = refl
more-waits None (s ∷ ss) n k ws w e = refl
more-waits None [] n zero ws w e = e
more-waits None [] n (suc k) [] w e = refl
more-waits None [] n (suc k) (x ∷ xs) w e = refl

submit-rests : (b : State) (sdu : List ℕ) → HasSettled (Am b)
    → settles b.tx (is_some (slice_get (offers (pdcp_submitted b.pdcp.tx sdu)) 0)) ≡ false
unfolding offers pdcp_submitted
submit-rests b sdu h =
    later-rests b.tx (has_more b.pdcp) (is_some (slice_get (offers (pdcp_submitted b.pdcp.tx sdu)) 0))
    (more b.pdcp.tx) h
  where
    more : (s : Sending) → is_some (slice_get (offers s) 0) ≡ true
        → is_some (slice_get (offers (pdcp_submitted s sdu)) 0) ≡ true
    more s e =
        more-waits s.owed s.again s.next (s.bound - s.next) s.waiting (record { sdu = sdu; born = s.clock }) e

set-rests : (b : State) (ttis : ℕ) → HasSettled (Am b)
    → settles b.tx (is_some (slice_get (offers (record b.pdcp.tx { discard = Some ttis })) 0)) ≡ false
unfolding offers
set-rests b ttis h = h

-- ---- any call

record HasMarks (b : State) : Type 0 where
  marks : Marks
  come : HasCome b.tx marks

lived-marks : (b : State) → HasLived b → HasMarks b
lived-marks b h =
    let o = h.origin in
    let begins : HasCome o.tx unmarked = record {
      config = o.tx_config;
      calls = [];
      some = tt;
      is = ap (λ (s : Sender). record { state = s; past = unmarked }) (sym h.begins);
    } in
    let m = marks_along h.deeds o unmarked in
    let come = come-then (sends_in h.deeds o) o.tx (does_all h.deeds o).tx unmarked m begins h.octets
    (deeds-fall h.deeds o unmarked begins h.octets).run in
    subst HasMarks h.is (record { marks = m; come = come })

pub bearers_settle : (b : State) (c : Call) → Stands b → HasSettled (Am b) → HasSettled (after (Am b) c)
unfolding submitted taken_from arrived expired ticked with_discard after_arrival after_expiry
bearers_settle b (Submit sdu) s h = submit-rests b sdu h
bearers_settle b (Take share held) s h = take-rests b share held h
bearers_settle b (Arrive pdu) s h = arrival-rests (am_at pdu) b s.idle.confirmed h
bearers_settle b (Expire clock) s h =
    let m = lived-marks b s.lived in clock-rests clock b m.marks m.come h
bearers_settle b Tick s h = let m = lived-marks b s.lived in tick-rests b m.marks m.come h
bearers_settle b (SetDiscard ttis) s h = set-rests b ttis h

pub lives_begin_settled : (b : State) → b.tx.window.slots ≡ [] → HasSettled (Am b)
lives_begin_settled b none =
    none-starts b.tx (has_more b.pdcp) (λ x.
    let zero' : (length b.tx.window.slots == 0) ≡ true = ap (λ (ss : List Slot). length ss == 0) none in
    on-off (length b.tx.window.slots == 0) zero' x.some)

-- ---- so its timer runs

pub quiet_awaits_poll : (b : State) → IsWatched b.tx → HasSettled (Am b) → bearer_quiet b ≡ 1
    → runs b.tx.polls.timer ≡ true
quiet_awaits_poll b w h one = by (is_waiting b.tx (has_more b.pdcp)) refl one
  where
    more : Bool
    more = has_more b.pdcp

    by : (q : Bool) → is_waiting b.tx (has_more b.pdcp) ≡ q → ◌≡◌ {A = ℕ} (if q then 1 else 0) 1
        → runs b.tx.polls.timer ≡ true
    by true e is =
        let p = parts-of b.tx more e in
        let quiet' : is_quiet b.tx more ≡ true = rw (p.still, p.rest) refl in
        subst (λ (t : Bool). runs (settled_by t b.tx).polls.timer ≡ true) h
        (w.settled more p.failed p.some quiet')
    by false e is = absurd (omega (arith, is))
