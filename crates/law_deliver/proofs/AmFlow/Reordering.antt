-- Event by event, what a bearer tells of t-Reordering.
use Rattle.std.proofs.Common.{◌≡◌, ℕ, Bool, true, false, if◌then◌else◌, List, [], ◌∷◌, ◌++◌, ◌-◌, ◌%◌, drop, Option}
use Rattle.std.proofs.Common.{Some}
use Rattle.std.proofs.Common.{None, nat_lt, length, Result, Ok, Err, unwrap_or, append_assoc, append-nil, refl, ap}
use Rattle.std.proofs.Common.{sym, subst, ◌∙◌}
use Rattle.std.proofs.lemmas.Grind.{flat_map-append}
use Rattle.std.specs.List.{AllByRecursion}
use Rattle.bearer.specs.Acknowledged.Hearing.{started_told, settled_if, heard_work, hears, hears_all}
use Rattle.bearer.specs.Acknowledged.Hearing.{all_handed, land_work, stopped_told, status_work, confirms}
use Rattle.bearer.specs.Acknowledged.Hearing.{all_confirmed}
use Rattle.bearer.specs.Acknowledged.Hearing.{arrived_told, arrived_left, arriving, after_arrival}
use Rattle.bearer.specs.Acknowledged.State.{State, has_more, Work, work}
use Rattle.bearer.specs.Acknowledged.Taking.{writes_status, status_told, has_prohibit, prohibit_told, feeds, fed}
use Rattle.bearer.specs.Acknowledged.Taking.{feeding}
use Rattle.bearer.specs.Acknowledged.Taking.{data_told, data_size, answer_of, taking, after_taking}
use Rattle.bearer.specs.Acknowledged.Taking.{poll_told as sent_poll_told}
use Rattle.bearer.specs.Acknowledged.Timing.{Ticking, poll_told, timer_told, clock_told, clock_left, expiry}
use Rattle.bearer.specs.Acknowledged.Timing.{after_expiry}
use Rattle.bearer.specs.Acknowledged.Timing.{told_of, expires_if, counts, has_ended, ticks, discards, ticked}
use Rattle.bearer.specs.Hearing.{arriving as any_arriving, arrived as any_arrived, expiry as any_expiry, expired}
use Rattle.bearer.specs.Hearing.{ticking, ticked as any_ticked, with_discard}
use Rattle.bearer.specs.Submitting.{submitted}
use Rattle.bearer.specs.Taking.{told, after as taken_from}
use Rattle.bearer.specs.declared.flow.Flow.TheVariants.{Am}
use Rattle.bearer_pdcp.specs.Discarding.{late_told, tick_told, after_tick as after_discards}
use Rattle.bearer_pdcp.specs.Ends.{Ends}
use Rattle.bearer_pdcp.specs.Hearing.{ups, got_told, heard_told, applies, is_applied, with_arrived}
use Rattle.bearer_pdcp.specs.Taking.{report_told, own_report_told, taken_told, next_told, taking_told}
use Rattle.bearer_pdcp.specs.Telling.{turned_told, landed_told}
use Rattle.bearer_types.specs.declared.event.Event.{Event}
use Rattle.bearer_types.specs.declared.event.Event.TheVariants as events
use Rattle.l2_types.specs.declared.event.Clock.{Clock}
use Rattle.l2_types.specs.declared.event.Clock.TheVariants.{Poll, Reorder, Prohibit}
use Rattle.l2_types.specs.declared.event.How.TheVariants as how
use Rattle.l2_types.specs.declared.event.Lost.TheVariants as lost
use Rattle.pdcp_pdu.specs.Pdus.{UserPdu, Sdu, Report}
use Rattle.pdcp_pdu.specs.Reading.{user_at}
use Rattle.pdcp_pdu.specs.declared.PdcpKind.{PdcpKind}
use Rattle.pdcp_pdu.specs.declared.PdcpKind.TheVariants as kinds
use Rattle.pdcp_pdu.specs.declared.PdcpRefusal.{PdcpRefusal}
use Rattle.pdcp_rx.specs.declared.Cause.{Cause}
use Rattle.pdcp_rx.specs.declared.Cause.TheVariants.{Arrived}
use Rattle.pdcp_rx.specs.declared.Got.{Got}
use Rattle.pdcp_rx.specs.declared.Got.TheVariants as got_as
use Rattle.pdcp_rx.specs.State.{got}
use Rattle.pdcp_tx.specs.declared.Next.{Next}
use Rattle.pdcp_tx.specs.State.{Offer, offers, State as Sending, is_overdue, after_late}
use Rattle.pdcp_tx.specs.State.{taking as pdcp_taking, ticked as pdcp_ticked, submitted as pdcp_submitted}
use Rattle.pdcp_tx_store.specs.Waiting.{Waits}
use Rattle.rlc_am_rx.specs.Machine.{landed, turned, turned_on, arrived, taken, written, reorder_answer}
use Rattle.rlc_am_rx.specs.Machine.{prohibit_answer}
use Rattle.rlc_am_rx.specs.Status.{ack}
use Rattle.rlc_am_rx.specs.State.{State as Receiver}
use Rattle.rlc_am_tx.specs.Machine.{settles, heard, after_status, expiry as poll_expiry}
use Rattle.rlc_am_tx.specs.Need.{hungry}
use Rattle.rlc_am_tx.specs.declared.answers.Heard.{Heard}
use Rattle.rlc_am_tx.specs.declared.answers.Heard.TheVariants as heard_as
use Rattle.rlc_am_tx.specs.declared.answers.PollExpired.{PollExpired}
use Rattle.rlc_am_tx.specs.declared.answers.PollExpired.TheVariants as polls
use Rattle.rlc_pdu.specs.Pdus.{AcknowledgedPdu, AmdPdu, Payload, Status as Control}
use Rattle.rlc_pdu.specs.Reading.{am_at}
use Rattle.rlc_pdu.specs.declared.Expired.{Expired as Answer}
use Rattle.rlc_pdu.specs.declared.Expired.TheVariants.{Done, NotRunning}
use Rattle.rlc_pdu.specs.declared.Landed.{Landed}
use Rattle.rlc_pdu.specs.declared.Landed.TheVariants.{Kept, Repeat, Outside, Clash}
use Rattle.rlc_pdu.specs.declared.RlcRefusal.{RlcRefusal}
use Rattle.rlc_pdu.specs.declared.Turned.{Turned}
use Rattle.rlc_pdu.specs.declared.Taken.{Taken}
use Rattle.rlc_pdu.specs.declared.Taken.TheVariants.{Piece, Idle, Small, Shut, Held, Stopped}
use Rattle.law_bearer.specs.AnyBearer.Acknowledged.{hears_on, data_heard, receiver_calls, IsOfReceiver}
use Rattle.law_bearer.specs.AnyBearer.Calls.{Submit, Take, Arrive, Expire, Tick, SetDiscard}
use Rattle.law_bearer.proofs.AnyBearer.ReceiverCalls.{hears_then}
use Rattle.law_bearer.proofs.AnyBearer.SenderCalls.{all_then}
use Rattle.law_rlc.specs.AmReceiver.Run.{Call as ReceiverCall, Up, Write, ExpireReorder}
use Rattle.law_rlc.specs.AmReceiver.Run.{ExpireProhibit, TickReorder, TickProhibit, state_after}
use Rattle.law_deliver.specs.AmFlow.Reordering.{Reordering, reordering_told, reordering_in, starts_if, expiry_of}
use Rattle.law_deliver.specs.AmFlow.Reordering.{reordering_by, reordering_over, TellsReordering, BearersTellReordering}

-- ---- events of something else

abbrev pub Silent : List Event → Type 0
Silent told = reordering_in told ≡ []

pub in_both : (xs ys : List Event) → reordering_in (xs ++ ys) ≡ reordering_in xs ++ reordering_in ys
in_both xs ys = flat_map-append reordering_told xs ys

-- behind others nothing more is told
pub then_silent : (xs ys : List Event) → Silent ys → reordering_in (xs ++ ys) ≡ reordering_in xs
then_silent xs ys e = in_both xs ys ∙ (ap (λ (zs : List Reordering). reordering_in xs ++ zs) e
    ∙ append-nil (reordering_in xs))

both_silent : (xs ys : List Event) → Silent xs → Silent ys → Silent (xs ++ ys)
both_silent xs ys e f = then_silent xs ys f ∙ e

-- ---- a take

prohibit_silent : (lcid : ℕ) (b : Bool) → Silent (prohibit_told lcid b)
prohibit_silent lcid true = refl
prohibit_silent lcid false = refl

report_silent : (lcid : ℕ) (r : Result UserPdu PdcpRefusal) → Silent (report_told lcid r)
report_silent lcid (Err refusal) = refl
report_silent lcid (Ok (Sdu sn octets)) = refl
report_silent lcid (Ok (Report fms bitmap)) = refl

own_silent : (lcid : ℕ) (kind : PdcpKind) (pdu : List ℕ) → Silent (own_report_told lcid kind pdu)
own_silent lcid kinds.Srb pdu = refl
own_silent lcid (kinds.Um bits) pdu = report_silent lcid (user_at bits pdu)
own_silent lcid (kinds.Am bits) pdu = report_silent lcid (user_at bits pdu)

next_silent : (lcid : ℕ) (kind : PdcpKind) (o : Option Next) → Silent (next_told lcid kind o)
next_silent lcid kind None = refl
next_silent lcid kind (Some n) = by n.count
  where
    by : (count : Option ℕ) → Silent (taken_told lcid kind count n.len n.octets)
    by None = own_silent lcid kind n.octets
    by (Some count) = refl

pub take_silent : (e : Ends) → Silent (taking_told e)
unfolding taking_told
take_silent e = next_silent e.lcid e.kind (pdcp_taking e.tx)

feeds_silent : (os : List Offer) (size : ℕ) (held : Option ℕ) (w : Work)
    → reordering_in (feeds os size held w).events ≡ reordering_in w.events
feeds_silent [] size held w = refl
feeds_silent (o ∷ os) size held w = by (hungry w.tx size held) (feeds_silent os size held (fed w))
  where
    by : (b : Bool) → reordering_in (feeds os size held (fed w)).events ≡ reordering_in (fed w).events
        → reordering_in (if b then feeds os size held (fed w) else w).events ≡ reordering_in w.events
    by true rest = rest ∙ then_silent w.events (taking_told w.pdcp) (take_silent w.pdcp)
    by false rest = refl

poll_silent : (lcid : ℕ) (b : Bool) → Silent (sent_poll_told lcid b)
poll_silent lcid true = refl
poll_silent lcid false = refl

data_silent : (lcid : ℕ) (t : Taken) → Silent (data_told lcid t)
data_silent lcid (Piece number first polled octets) = poll_silent lcid polled
data_silent lcid Idle = refl
data_silent lcid Small = refl
data_silent lcid Shut = refl
data_silent lcid Held = refl
data_silent lcid Stopped = refl

status_silent : (lcid : ℕ) (has : Bool) (r : Receiver) (share : ℕ) → Silent (status_told lcid has r share)
status_silent lcid has r share = by (writes_status r share) (ack r (share - 3) % 1024)
  where
    by : (b : Bool) (sn : ℕ) → Silent (if b then events.Send lcid how.Status sn ∷ prohibit_told lcid has else [])
    by true sn = prohibit_silent lcid has
    by false sn = refl

pub taking_silent : (b : State) (share : ℕ) (held : Option ℕ) → Silent (taking b share held)
unfolding taking
taking_silent b share held =
    let w : Work = feeding b share held in
    then_silent w.events (data_told w.pdcp.lcid (answer_of w (data_size b share) held))
    (data_silent w.pdcp.lcid (answer_of w (data_size b share) held))
    ∙ (feeds_silent (offers b.pdcp.tx) (data_size b share) held
    (work b.pdcp b.tx (status_told b.pdcp.lcid (has_prohibit b) b.rx share))
    ∙ status_silent b.pdcp.lcid (has_prohibit b) b.rx share)

-- ---- SDUs go to PDCP

ups_silent : (lcid : ℕ) (sdus : List (List ℕ)) → Silent (ups lcid sdus)
ups_silent lcid [] = refl
ups_silent lcid (sdu ∷ sdus) = ups_silent lcid sdus

got_silent : (g : Got) (cause : Cause) (e : Ends) → Silent (got_told g cause e)
got_silent got_as.Up cause e = ups_silent e.lcid e.rx.ready
got_silent got_as.Stored cause e = ups_silent e.lcid e.rx.ready
got_silent got_as.Old cause e = refl
got_silent got_as.OutOfRange cause e = refl
got_silent (got_as.Integrity found wanted) cause e = refl
got_silent (got_as.Report fms bitmap) cause e = by (is_applied e cause fms)
  where
    by : (b : Bool) → Silent (if b then [] else events.Drop e.lcid lost.Report ∷ [])
    by true = refl
    by false = refl
got_silent (got_as.Unreadable fault) cause e = refl

pub heard_silent : (pdu : List ℕ) (cause : Cause) (e : Ends) → Silent (heard_told pdu cause e)
unfolding heard_told
heard_silent pdu cause e = got_silent (got e.rx pdu cause) cause (with_arrived pdu cause e)

started_silent : (lcid : ℕ) (b : Bool) → Silent (started_told lcid b)
started_silent lcid true = refl
started_silent lcid false = refl

settled_silent : (b : Bool) (w : Work) → reordering_in (settled_if b w).events ≡ reordering_in w.events
settled_silent true w =
    then_silent w.events (started_told w.pdcp.lcid (settles w.tx (has_more w.pdcp)))
    (started_silent w.pdcp.lcid (settles w.tx (has_more w.pdcp)))
settled_silent false w = refl

hears_silent : (sdu : List ℕ) (w : Work) → reordering_in (hears sdu w).events ≡ reordering_in w.events
hears_silent sdu w =
    settled_silent (applies sdu Arrived w.pdcp) (heard_work sdu w)
    ∙ then_silent w.events (heard_told sdu Arrived w.pdcp) (heard_silent sdu Arrived w.pdcp)

all_silent : (sdus : List (List ℕ)) (w : Work) → reordering_in (hears_all sdus w).events ≡ reordering_in w.events
all_silent [] w = refl
all_silent (sdu ∷ sdus) w = all_silent sdus (hears sdu w) ∙ hears_silent sdu w

-- ---- a PDU arrives

pub turned_is : (lcid : ℕ) (t : Turned) → reordering_in (turned_told lcid t) ≡ starts_if t.started
turned_is lcid t = by t.stopped t.started
  where
    by : (stopped started : Bool)
        → reordering_in ((if stopped then events.Stop lcid Reorder ∷ [] else [])
        ++ (if started then events.Start lcid Reorder ∷ [] else [])) ≡ starts_if started
    by true true = refl
    by true false = refl
    by false true = refl
    by false false = refl

landed_is : (lcid : ℕ) (l : Landed) (r : Receiver) (p : AmdPdu)
    → reordering_in (landed_told lcid l (turned_on l r p)) ≡ starts_if (turned_on l r p).started
landed_is lcid Kept r p = turned_is lcid (turned_on Kept r p)
landed_is lcid Repeat r p = refl
landed_is lcid Outside r p = refl
landed_is lcid Clash r p = refl

land_told : (p : AmdPdu) (b : State) → reordering_in (land_work p b).events ≡ starts_if (turned b.rx p).started
land_told p b =
    all_silent (arrived b.rx p).out.ready
    (work b.pdcp b.tx (landed_told b.pdcp.lcid (landed b.rx p) (turned b.rx p)))
    ∙ landed_is b.pdcp.lcid (landed b.rx p) b.rx p

stopped_silent : (lcid : ℕ) (b : Bool) → Silent (stopped_told lcid b)
stopped_silent lcid true = refl
stopped_silent lcid false = refl

pub control_silent : (h : Heard) (w : Work) → reordering_in (status_work h w).events ≡ reordering_in w.events
control_silent heard_as.Ignored w = then_silent w.events (events.Drop w.pdcp.lcid lost.Ignored ∷ []) refl
control_silent (heard_as.Limit sn) w = then_silent w.events (events.Fail w.pdcp.lcid sn ∷ []) refl
control_silent (heard_as.Applied stopped) w =
    settled_silent true (record w { events = w.events ++ stopped_told w.pdcp.lcid stopped })
    ∙ then_silent w.events (stopped_told w.pdcp.lcid stopped) (stopped_silent w.pdcp.lcid stopped)

-- ---- calls of the receiver, one behind the other

over_both : (cs ds : List ReceiverCall) (r : Receiver)
    → reordering_over (cs ++ ds) r ≡ reordering_over cs r ++ reordering_over ds (hears_on cs r)
over_both [] ds r = refl
over_both (c ∷ cs) ds r =
    ap (λ (zs : List Reordering). reordering_by r c ++ zs) (over_both cs ds (state_after r c))
    ∙ sym (append_assoc (reordering_by r c) (reordering_over cs (state_after r c))
    (reordering_over ds (hears_on cs (state_after r c))))

record Goes (r t : Receiver) (told : List Reordering) : Type 0 where
  own : List ReceiverCall
  are_own : AllByRecursion IsOfReceiver own
  left : t ≡ hears_on own r
  told_is : told ≡ reordering_over own r

rests : (r : Receiver) (told : List Reordering) → told ≡ [] → Goes r r told
rests r told e = record { own = []; are_own = tt; left = refl; told_is = e }

goes_more : (r s t : Receiver) (xs ys : List Reordering) → Goes r s xs → Goes s t ys → Goes r t (xs ++ ys)
goes_more r s t xs ys m n = record {
  own = m.own ++ n.own;
  are_own = all_then IsOfReceiver m.own n.own m.are_own n.are_own;
  left = n.left ∙ ap (hears_on n.own) m.left ∙ sym (hears_then r m.own n.own);
  told_is = ap (λ (zs : List Reordering). zs ++ ys) m.told_is
      ∙ (ap (λ (zs : List Reordering). reordering_over m.own r ++ zs)
      (n.told_is ∙ ap (reordering_over n.own) m.left) ∙ sym (over_both m.own n.own r));
}

hands_each : (sdus : List (List ℕ)) (r : Receiver) → r.out.ready ≡ sdus → Goes r (all_handed r) []
hands_each [] r q =
    record {
      own = [];
      are_own = tt;
      left = subst (λ l. record r { out = record r.out { ready = l } } ≡ r) q refl;
      told_is = refl;
    }
hands_each (sdu ∷ sdus) r q =
    let one : Goes r (taken r) [] = record { own = Up ∷ []; are_own = (tt, tt); left = refl; told_is = refl } in
    goes_more r (taken r) (all_handed r) [] [] one
    (hands_each sdus (taken r) (ap (λ (l : List (List ℕ)). drop 1 l) q))

-- ---- timers

poll_expiry_silent : (lcid : ℕ) (x : PollExpired) → Silent (told_of (poll_told lcid x))
poll_expiry_silent lcid polls.NotRunning = refl
poll_expiry_silent lcid polls.Done = refl
poll_expiry_silent lcid (polls.Limit sn) = refl

reorder_expiry_is : (lcid : ℕ) (x : Answer)
    → reordering_in (told_of (timer_told lcid Reorder x)) ≡ expiry_of x ++ []
reorder_expiry_is lcid NotRunning = refl
reorder_expiry_is lcid (Done true) = refl
reorder_expiry_is lcid (Done false) = refl

prohibit_expiry_silent : (lcid : ℕ) (x : Answer) → Silent (told_of (timer_told lcid Prohibit x))
prohibit_expiry_silent lcid NotRunning = refl
prohibit_expiry_silent lcid (Done true) = refl
prohibit_expiry_silent lcid (Done false) = refl

clock_goes : (clock : Clock) (b : State)
    → Goes b.rx (clock_left clock b).rx (reordering_in (told_of (clock_told clock b)))
clock_goes Poll b =
    rests b.rx (reordering_in (told_of (clock_told Poll b)))
    (poll_expiry_silent b.pdcp.lcid (poll_expiry b.tx (has_more b.pdcp)))
clock_goes Reorder b = record {
  own = ExpireReorder ∷ [];
  are_own = (tt, tt);
  left = refl;
  told_is = reorder_expiry_is b.pdcp.lcid (reorder_answer b.rx.mark b.rx);
}
clock_goes Prohibit b = record {
  own = ExpireProhibit ∷ [];
  are_own = (tt, tt);
  left = refl;
  told_is = prohibit_expiry_silent b.pdcp.lcid (prohibit_answer b.rx);
}

expires_on : (b : State) (clock : Clock)
    → Goes b.rx (after_expiry b clock).rx (reordering_in (told_of (expiry b clock)))
unfolding after_expiry expiry
expires_on b clock = clock_goes clock b

-- what is told behind what was told
record TicksOn (t u : Ticking) : Type 0 where
  more : List Reordering
  goes : Goes t.bearer.rx u.bearer.rx more
  told_is : reordering_in u.events ≡ reordering_in t.events ++ more

ticks_then : (t u v : Ticking) → TicksOn t u → TicksOn u v → TicksOn t v
ticks_then t u v m n = record {
  more = m.more ++ n.more;
  goes = goes_more t.bearer.rx u.bearer.rx v.bearer.rx m.more n.more m.goes n.goes;
  told_is = n.told_is ∙ (ap (λ (zs : List Reordering). zs ++ n.more) m.told_is
      ∙ append_assoc (reordering_in t.events) m.more n.more);
}

ended_on : (b : Bool) (clock : Clock) (t : Ticking) → TicksOn t (expires_if b clock t)
ended_on true clock t = record {
  more = reordering_in (told_of (expiry t.bearer clock));
  goes = expires_on t.bearer clock;
  told_is = in_both t.events (told_of (expiry t.bearer clock));
}
ended_on false clock t = record {
  more = [];
  goes = rests t.bearer.rx [] refl;
  told_is = sym (append-nil (reordering_in t.events));
}

counts_on : (clock : Clock) (t : Ticking) → TicksOn t (record t { bearer = counts clock t.bearer })
counts_on Poll t = record {
  more = [];
  goes = rests t.bearer.rx [] refl;
  told_is = sym (append-nil (reordering_in t.events));
}
counts_on Reorder t = record {
  more = [];
  goes = record { own = TickReorder ∷ []; are_own = (tt, tt); left = refl; told_is = refl };
  told_is = sym (append-nil (reordering_in t.events));
}
counts_on Prohibit t = record {
  more = [];
  goes = record { own = TickProhibit ∷ []; are_own = (tt, tt); left = refl; told_is = refl };
  told_is = sym (append-nil (reordering_in t.events));
}

ticks_on : (clock : Clock) (t : Ticking) → TicksOn t (ticks clock t)
ticks_on clock t =
    let n : Ticking = record t { bearer = counts clock t.bearer } in
    ticks_then t n (ticks clock t) (counts_on clock t) (ended_on (has_ended clock t.bearer) clock n)

late_silent : (lcid : ℕ) (ws : List Waits) (s : Sending) → Silent (late_told lcid ws s)
late_silent lcid [] s = refl
late_silent lcid (w ∷ ws) s = by (is_overdue s) (late_silent lcid ws (after_late s))
  where
    by : (b : Bool) → Silent (late_told lcid ws (after_late s))
        → Silent (if b then events.Discard lcid (length w.sdu) ∷ late_told lcid ws (after_late s) else [])
    by true rest = rest
    by false rest = refl

pub tick_silent : (e : Ends) → Silent (tick_told e)
unfolding tick_told
tick_silent e = late_silent e.lcid e.tx.waiting (pdcp_ticked e.tx)

discards_on : (t : Ticking) → TicksOn t (discards t)
discards_on t = record {
  more = [];
  goes = rests t.bearer.rx [] refl;
  told_is = settled_silent (nat_lt 0 (length (tick_told t.bearer.pdcp)))
      (work (after_discards t.bearer.pdcp) t.bearer.tx (t.events ++ tick_told t.bearer.pdcp))
      ∙ (then_silent t.events (tick_told t.bearer.pdcp) (tick_silent t.bearer.pdcp)
      ∙ sym (append-nil (reordering_in t.events)));
}

ticked_on : (b : State) → TicksOn (record { bearer = b; events = [] }) (ticked b)
unfolding ticked
ticked_on b =
    let t0 : Ticking = record { bearer = b; events = [] } in
    let t1 = ticks Poll t0 in
    let t2 = ticks Reorder t1 in
    let t3 = ticks Prohibit t2 in
    ticks_then t0 t3 (discards t3)
    (ticks_then t0 t2 t3 (ticks_then t0 t1 t2 (ticks_on Poll t0) (ticks_on Reorder t1)) (ticks_on Prohibit t2))
    (discards_on t3)

-- ---- any call

own_calls : (r t : Receiver) (told : List Event) → Goes r t (reordering_in told) → TellsReordering r t [] told
own_calls r t told g = record { own = g.own; are_own = g.are_own; left = g.left; told_is = g.told_is }

some_told : (o : Option (List Event)) → unwrap_or o [] ≡ told_of o
some_told None = refl
some_told (Some told) = refl

arrives_by : (x : Result AcknowledgedPdu RlcRefusal) (b : State)
    → TellsReordering b.rx (arrived_left x b).rx (data_heard x) (arrived_told x b)
arrives_by (Err fault) b = own_calls b.rx b.rx (arrived_told (Err fault) b) (rests b.rx [] refl)
arrives_by (Ok (Payload p)) b =
    let g = hands_each (arrived b.rx p).out.ready (arrived b.rx p) refl in
    record {
      own = g.own;
      are_own = g.are_own;
      left = g.left;
      told_is = land_told p b
          ∙ (sym (append-nil (starts_if (turned b.rx p).started))
          ∙ ap (λ (zs : List Reordering). starts_if (turned b.rx p).started ++ zs) g.told_is);
    }
arrives_by (Ok (Control p)) b =
    own_calls b.rx b.rx (arrived_told (Ok (Control p)) b)
    (rests b.rx (reordering_in (arrived_told (Ok (Control p)) b))
    (control_silent (heard b.tx p)
    (work (confirms (after_status b.tx p).accounts.news b.pdcp) (all_confirmed (after_status b.tx p)) [])))

arrives_on : (b : State) (pdu : List ℕ)
    → TellsReordering b.rx (after_arrival b pdu).rx (data_heard (am_at pdu)) (arriving b pdu)
unfolding after_arrival arriving
arrives_on b pdu = arrives_by (am_at pdu) b

writes_by : (w : Bool) (r : Receiver) (told : List Event) → Silent told
    → TellsReordering r (if w then written r else r) (if w then Write ∷ [] else []) told
writes_by true r told e = record { own = []; are_own = tt; left = refl; told_is = e }
writes_by false r told e = record { own = []; are_own = tt; left = refl; told_is = e }

takes_on : (b : State) (share : ℕ) (held : Option ℕ)
    → TellsReordering b.rx (after_taking b share held).rx (receiver_calls b (Take share held)) (taking b share held)
unfolding after_taking
takes_on b share held =
    writes_by (writes_status b.rx share) b.rx (taking b share held) (taking_silent b share held)

tells_to : (r : Receiver) (b d : State) (cs : List ReceiverCall) (events' : List Event) → Am b ≡ Am d
    → TellsReordering r b.rx cs events' → TellsReordering r d.rx cs events'
tells_to r b d cs events' q h = let same : b ≡ d = cc in
    subst (λ (x : State). TellsReordering r x.rx cs events') same h

pub bearers_tell : BearersTellReordering
unfolding submitted taken_from any_arrived expired any_ticked with_discard told any_arriving any_expiry ticking
bearers_tell l b d (Submit sdu) q =
    tells_to b.rx (record b { pdcp = record b.pdcp { tx = pdcp_submitted b.pdcp.tx sdu } }) d [] [] q
    (own_calls b.rx b.rx [] (rests b.rx [] refl))
bearers_tell l b d (Take share held) q =
    tells_to b.rx (after_taking b share held) d (receiver_calls b (Take share held)) (taking b share held) q
    (takes_on b share held)
bearers_tell l b d (Arrive pdu) q =
    tells_to b.rx (after_arrival b pdu) d (data_heard (am_at pdu)) (arriving b pdu) q (arrives_on b pdu)
bearers_tell l b d (Expire clock) q =
    tells_to b.rx (after_expiry b clock) d [] (unwrap_or (expiry b clock) []) q
    (subst (TellsReordering b.rx (after_expiry b clock).rx []) (sym (some_told (expiry b clock)))
    (own_calls b.rx (after_expiry b clock).rx (told_of (expiry b clock)) (expires_on b clock)))
bearers_tell l b d Tick q =
    let t = ticked_on b in
    tells_to b.rx (ticked b).bearer d [] (ticked b).events q
    (record { own = t.goes.own; are_own = t.goes.are_own; left = t.goes.left; told_is = t.told_is ∙ t.goes.told_is })
bearers_tell l b d (SetDiscard ttis) q =
    tells_to b.rx (record b { pdcp = record b.pdcp { tx = record b.pdcp.tx { discard = Some ttis } } }) d [] [] q
    (own_calls b.rx b.rx [] (rests b.rx [] refl))
