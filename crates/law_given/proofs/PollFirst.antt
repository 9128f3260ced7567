-- A bearer's own call tells first, if at all, that t-PollRetransmit expires.
use Rattle.std.proofs.Common.{ℕ, ◌-◌, ◌%◌, Bool, true, false, if◌then◌else◌, nat_lt, List, [], ◌∷◌, ◌++◌, length}
use Rattle.std.proofs.Common.{Option, Some, None, Result, Ok, Err}
use Rattle.std.specs.List.{AllByRecursion}
use Rattle.bearer_types.specs.declared.Event.{Event}
use Rattle.bearer_types.specs.declared.Event.TheVariants as events
use Rattle.l2_types.specs.declared.Clock.{Clock}
use Rattle.l2_types.specs.declared.Clock.TheVariants.{Poll, Reorder, Prohibit}
use Rattle.l2_types.specs.declared.How.TheVariants as how
use Rattle.rlc_pdu.specs.declared.Expired.{Expired}
use Rattle.rlc_pdu.specs.declared.Expired.TheVariants.{Done, NotRunning}
use Rattle.rlc_pdu.specs.declared.Taken.{Taken}
use Rattle.rlc_pdu.specs.declared.Taken.TheVariants.{Piece, Idle, Small, Shut, Held, Stopped}
use Rattle.rlc_am_tx.specs.declared.answers.PollExpired.{PollExpired}
use Rattle.rlc_am_tx.specs.declared.answers.PollExpired.TheVariants as polls
use Rattle.rlc_am_tx.specs.Machine.{expiry as poll_expiry, settles as starts}
use Rattle.rlc_am_tx.specs.Need.{hungry}
use Rattle.rlc_am_rx.specs.Machine.{reorder_answer, prohibit_answer}
use Rattle.rlc_am_rx.specs.Status.{ack}
use Rattle.pdcp_pdu.specs.declared.PdcpKind.{PdcpKind}
use Rattle.pdcp_pdu.specs.declared.PdcpKind.TheVariants.{Srb, Um, Am as AmKind}
use Rattle.pdcp_pdu.specs.declared.PdcpRefusal.{PdcpRefusal}
use Rattle.pdcp_pdu.specs.Pdus.{UserPdu, Sdu, Report}
use Rattle.pdcp_pdu.specs.Reading.{user_at}
use Rattle.pdcp_tx_store.specs.Waiting.{Waits}
use Rattle.pdcp_tx.specs.declared.Next.{Next}
use Rattle.pdcp_tx.specs.State.{State as Sending, Offer, offers, taking, is_overdue, after_late, ticked as pdcp_ticked}
use Rattle.bearer_pdcp.specs.Discarding.{late_told, after_tick, tick_told}
use Rattle.bearer_pdcp.specs.Ends.{Ends}
use Rattle.bearer_pdcp.specs.Taking.{report_told, own_report_told, taken_told, next_told, taking_told}
use Rattle.bearer_pdcp.specs.Telling.{expired_told}
use Rattle.bearer.specs.Acknowledged.State.{State, has_more, Work, work}
use Rattle.bearer.specs.Acknowledged.Hearing.{settled_if, started_told}
use Rattle.bearer.specs.Acknowledged.Taking.{fed, feeds, feeding, data_size, status_told, writes_status, has_prohibit}
use Rattle.bearer.specs.Acknowledged.Taking.{prohibit_told, data_told, poll_told as polled_told, answer_of}
use Rattle.bearer.specs.Acknowledged.Taking.{taking as am_taking}
use Rattle.bearer.specs.Acknowledged.Timing.{poll_told, timer_told, clock_told, expiry as am_expiry, Ticking, told_of}
use Rattle.bearer.specs.Acknowledged.Timing.{expires_if, counts, has_ended, ticks as ticked_by, discards as discarded}
use Rattle.bearer.specs.Acknowledged.Timing.{ticked as am_ticked}
use Rattle.bearer.specs.Taking.{told as flow_told}
use Rattle.bearer.specs.Hearing.{expiry, ticking}
use Rattle.law_bearer.specs.AnyBearer.Calls.{Call, Submit, Take, Arrive, Expire, Tick, SetDiscard}
use Rattle.law_bearer.specs.AmBearer.Calls.{tells}
use Rattle.law_given.specs.SupplyLaws.{IsOwn}

-- ---- no event says so, or only the first one

abbrev pub IsNoExpiry : Event → Type 0
IsNoExpiry (events.Expired lcid Poll) = ⊥
IsNoExpiry event = Unit {0}

abbrev pub NoneExpires : List Event → Type 0
NoneExpires told = AllByRecursion IsNoExpiry told

abbrev pub OnlyFirst : List Event → Type 0
OnlyFirst [] = Unit {0}
OnlyFirst (event ∷ told) = NoneExpires told

none-then : (xs ys : List Event) → NoneExpires xs → NoneExpires ys → NoneExpires (xs ++ ys)
none-then [] ys h k = k
none-then (x ∷ xs) ys h k = (h.0, none-then xs ys h.1 k)

none-first : (xs : List Event) → NoneExpires xs → OnlyFirst xs
none-first [] h = tt
none-first (x ∷ xs) h = h.1

first-then : (xs ys : List Event) → OnlyFirst xs → NoneExpires ys → OnlyFirst (xs ++ ys)
first-then [] ys h k = none-first ys k
first-then (x ∷ xs) ys h k = none-then xs ys h k

-- ---- a bearer writes

report-none : (lcid : ℕ) (r : Result UserPdu PdcpRefusal) → NoneExpires (report_told lcid r)
report-none lcid (Err refusal) = tt
report-none lcid (Ok (Sdu sn octets)) = tt
report-none lcid (Ok (Report fms bitmap)) = (tt, tt)

own-none : (lcid : ℕ) (kind : PdcpKind) (pdu : List ℕ) → NoneExpires (own_report_told lcid kind pdu)
own-none lcid Srb pdu = tt
own-none lcid (Um bits) pdu = report-none lcid (user_at bits pdu)
own-none lcid (AmKind bits) pdu = report-none lcid (user_at bits pdu)

taken-none : (lcid : ℕ) (kind : PdcpKind) (count : Option ℕ) (len : ℕ) (pdu : List ℕ)
    → NoneExpires (taken_told lcid kind count len pdu)
taken-none lcid kind (Some count) len pdu = (tt, tt)
taken-none lcid kind None len pdu = own-none lcid kind pdu

next-none : (lcid : ℕ) (kind : PdcpKind) (n : Option Next) → NoneExpires (next_told lcid kind n)
next-none lcid kind None = tt
next-none lcid kind (Some n) = taken-none lcid kind n.count n.len n.octets

taking-none : (e : Ends) → NoneExpires (taking_told e)
unfolding taking_told
taking-none e = next-none e.lcid e.kind (taking e.tx)

feeds-none : (os : List Offer) (size : ℕ) (held : Option ℕ) (w : Work) → NoneExpires w.events
    → NoneExpires (feeds os size held w).events
feeds-none [] size held w h = h
feeds-none (o ∷ os) size held w h =
    by (hungry w.tx size held)
    (feeds-none os size held (fed w) (none-then w.events (taking_told w.pdcp) h (taking-none w.pdcp)))
  where
    by : (b : Bool) → NoneExpires (feeds os size held (fed w)).events
        → NoneExpires (if b then feeds os size held (fed w) else w).events
    by true more = more
    by false more = h

status-none : (lcid sn : ℕ) (has due : Bool)
    → NoneExpires (if due then events.Send lcid how.Status sn ∷ prohibit_told lcid has else [])
status-none lcid sn true true = (tt, (tt, tt))
status-none lcid sn false true = (tt, tt)
status-none lcid sn has false = tt

data-none : (lcid : ℕ) (t : Taken) → NoneExpires (data_told lcid t)
data-none lcid (Piece number first polled octets) = (tt, by polled)
  where
    by : (polled : Bool) → NoneExpires (polled_told lcid polled)
    by true = (tt, tt)
    by false = tt
data-none lcid Idle = tt
data-none lcid Small = (tt, tt)
data-none lcid Shut = (tt, tt)
data-none lcid Held = (tt, tt)
data-none lcid Stopped = (tt, tt)

writes-none : (b : State) (share : ℕ) (held : Option ℕ) → NoneExpires (am_taking b share held)
unfolding am_taking
writes-none b share held =
    let v = feeding b share held in
    none-then v.events (data_told v.pdcp.lcid (answer_of v (data_size b share) held))
    (feeds-none (offers b.pdcp.tx) (data_size b share) held
    (work b.pdcp b.tx (status_told b.pdcp.lcid (has_prohibit b) b.rx share))
    (status-none b.pdcp.lcid (ack b.rx (share - 3) % 1024) (has_prohibit b) (writes_status b.rx share)))
    (data-none v.pdcp.lcid (answer_of v (data_size b share) held))

-- ---- a timer expires

poll-first : (lcid : ℕ) (x : PollExpired) → OnlyFirst (told_of (poll_told lcid x))
poll-first lcid polls.NotRunning = tt
poll-first lcid polls.Done = tt
poll-first lcid (polls.Limit sn) = (tt, tt)

reorder-none : (lcid : ℕ) (x : Expired) → NoneExpires (told_of (timer_told lcid Reorder x))
reorder-none lcid NotRunning = tt
reorder-none lcid (Done again) = by again
  where
    by : (again : Bool) → NoneExpires (expired_told lcid Reorder again)
    by true = (tt, (tt, tt))
    by false = (tt, tt)

prohibit-none : (lcid : ℕ) (x : Expired) → NoneExpires (told_of (timer_told lcid Prohibit x))
prohibit-none lcid NotRunning = tt
prohibit-none lcid (Done again) = by again
  where
    by : (again : Bool) → NoneExpires (expired_told lcid Prohibit again)
    by true = (tt, (tt, tt))
    by false = (tt, tt)

clock-first : (clock : Clock) (b : State) → OnlyFirst (told_of (clock_told clock b))
clock-first Poll b = poll-first b.pdcp.lcid (poll_expiry b.tx (has_more b.pdcp))
clock-first Reorder b =
    none-first (told_of (clock_told Reorder b)) (reorder-none b.pdcp.lcid (reorder_answer b.rx.mark b.rx))
clock-first Prohibit b =
    none-first (told_of (clock_told Prohibit b)) (prohibit-none b.pdcp.lcid (prohibit_answer b.rx))

expiry-first : (clock : Clock) (b : State) → OnlyFirst (told_of (am_expiry b clock))
unfolding am_expiry
expiry-first clock b = clock-first clock b

-- ---- a TTI begins: that timer counts first

poll-ticks : (ended : Bool) (b : State)
    → OnlyFirst (expires_if ended Poll (record { bearer = b; events = [] })).events
poll-ticks true b = expiry-first Poll b
poll-ticks false b = tt

others-tick : (ended : Bool) (clock : Clock) (t : Ticking) → NoneExpires (told_of (am_expiry t.bearer clock))
    → OnlyFirst t.events → OnlyFirst (expires_if ended clock t).events
others-tick true clock t h k = first-then t.events (told_of (am_expiry t.bearer clock)) k h
others-tick false clock t h k = k

reorder-expires : (b : State) → NoneExpires (told_of (am_expiry b Reorder))
unfolding am_expiry
reorder-expires b = reorder-none b.pdcp.lcid (reorder_answer b.rx.mark b.rx)

prohibit-expires : (b : State) → NoneExpires (told_of (am_expiry b Prohibit))
unfolding am_expiry
prohibit-expires b = prohibit-none b.pdcp.lcid (prohibit_answer b.rx)

lates-none : (lcid : ℕ) (ws : List Waits) (x : Sending) → NoneExpires (late_told lcid ws x)
lates-none lcid [] x = tt
lates-none lcid (w ∷ ws) x = by (is_overdue x) (lates-none lcid ws (after_late x))
  where
    by : (b : Bool) → NoneExpires (late_told lcid ws (after_late x))
        → NoneExpires (if b then events.Discard lcid (length w.sdu) ∷ late_told lcid ws (after_late x) else [])
    by true more = (tt, more)
    by false more = tt

tick-none : (e : Ends) → NoneExpires (tick_told e)
unfolding tick_told
tick-none e = lates-none e.lcid e.tx.waiting (pdcp_ticked e.tx)

settled-first : (a : Bool) (w : Work) → OnlyFirst w.events → OnlyFirst (settled_if a w).events
settled-first true w h =
    first-then w.events (started_told w.pdcp.lcid (starts w.tx (has_more w.pdcp))) h
    (by (starts w.tx (has_more w.pdcp)))
  where
    by : (b : Bool) → NoneExpires (started_told w.pdcp.lcid b)
    by true = (tt, tt)
    by false = tt
settled-first false w h = h

discards-first : (t : Ticking) → OnlyFirst t.events → OnlyFirst (discarded t).events
discards-first t h =
    let e = t.bearer.pdcp in
    settled-first (nat_lt 0 (length (tick_told e))) (work (after_tick e) t.bearer.tx (t.events ++ tick_told e))
    (first-then t.events (tick_told e) h (tick-none e))

tti-first : (b : State) → OnlyFirst (am_ticked b).events
unfolding am_ticked
tti-first b =
    let t0 : Ticking = record { bearer = b; events = [] } in
    let t1 = ticked_by Poll t0 in
    let t2 = ticked_by Reorder t1 in
    let counted = counts Reorder t1.bearer in
    let counted' = counts Prohibit t2.bearer in
    discards-first (ticked_by Prohibit t2)
    (others-tick (has_ended Prohibit t2.bearer) Prohibit (record t2 { bearer = counted' }) (prohibit-expires counted')
    (others-tick (has_ended Reorder t1.bearer) Reorder (record t1 { bearer = counted }) (reorder-expires counted)
    (poll-ticks (has_ended Poll b) (counts Poll b))))

-- ---- any call

pub call-first : (b : State) (c : Call) → IsOwn c → OnlyFirst (tells b c)
unfolding flow_told expiry ticking
call-first b (Submit sdu) own = tt
call-first b (Take share held) own = none-first (am_taking b share held) (writes-none b share held)
call-first b (Arrive pdu) own = absurd own
call-first b (Expire clock) own = expiry-first clock b
call-first b Tick own = tti-first b
call-first b (SetDiscard ttis) own = tt
