-- Of what a bearer tells nothing is a loss but what its receivers tell.
use Rattle.std.proofs.Common.{◌≡◌, ℕ, ◌-◌, ◌%◌, Bool, true, false, if◌then◌else◌, nat_lt, List, [], ◌∷◌, ◌++◌, length}
use Rattle.std.proofs.Common.{Option, Some, None, Result, Ok, Err, refl, ap, ◌∙◌}
use Rattle.std.proofs.lemmas.List.Elements.{filter-append}
use Rattle.bearer_types.specs.declared.Event.{Event}
use Rattle.bearer_types.specs.declared.Event.TheVariants as events
use Rattle.l2_types.specs.declared.Clock.{Clock}
use Rattle.l2_types.specs.declared.Clock.TheVariants.{Poll, Reorder, Prohibit}
use Rattle.l2_types.specs.declared.How.TheVariants as how
use Rattle.pdcp_tx_store.specs.Waiting.{Waits}
use Rattle.pdcp_pdu.specs.declared.PdcpKind.{PdcpKind}
use Rattle.pdcp_pdu.specs.declared.PdcpKind.TheVariants.{Srb, Um, Am as AmKind}
use Rattle.pdcp_pdu.specs.declared.PdcpRefusal.{PdcpRefusal}
use Rattle.pdcp_pdu.specs.Pdus.{UserPdu, Sdu, Report}
use Rattle.pdcp_pdu.specs.Reading.{user_at}
use Rattle.pdcp_tx.specs.declared.sender.Next.{Next}
use Rattle.pdcp_tx.specs.State.{State as Sending, Offer, offers, taking, is_overdue, after_late, ticked as pdcp_ticked}
use Rattle.rlc_pdu.specs.declared.Expired.{Expired}
use Rattle.rlc_pdu.specs.declared.Expired.TheVariants.{Done, NotRunning}
use Rattle.rlc_pdu.specs.declared.Landed.{Landed}
use Rattle.rlc_pdu.specs.declared.Landed.TheVariants.{Kept, Repeat, Outside, Clash}
use Rattle.rlc_pdu.specs.declared.Taken.{Taken}
use Rattle.rlc_pdu.specs.declared.Taken.TheVariants.{Piece, Idle, Small, Shut, Held, Stopped}
use Rattle.rlc_pdu.specs.declared.Turned.{Turned}
use Rattle.rlc_am_rx.specs.Machine.{reorder_answer, prohibit_answer}
use Rattle.rlc_am_rx.specs.Status.{ack}
use Rattle.rlc_am_tx.specs.declared.answers.Heard.{Heard}
use Rattle.rlc_am_tx.specs.declared.answers.Heard.TheVariants as heard_as
use Rattle.rlc_am_tx.specs.declared.answers.PollExpired.{PollExpired}
use Rattle.rlc_am_tx.specs.declared.answers.PollExpired.TheVariants as polls
use Rattle.rlc_am_tx.specs.Machine.{State as Sender, expiry as poll_expiry, settles as starts}
use Rattle.rlc_am_tx.specs.Need.{hungry}
use Rattle.bearer_pdcp.specs.Discarding.{late_told, after_tick as after_discards, tick_told}
use Rattle.bearer_pdcp.specs.Ends.{Ends}
use Rattle.bearer_pdcp.specs.Hearing.{ups}
use Rattle.bearer_pdcp.specs.Taking.{report_told, own_report_told, taken_told, next_told, taking_told}
use Rattle.bearer_pdcp.specs.Telling.{turned_told, landed_told, expired_told}
use Rattle.bearer.specs.Acknowledged.State.{State, has_more, Work, work}
use Rattle.bearer.specs.Acknowledged.Hearing.{settled_if, started_told, stopped_told, status_work}
use Rattle.bearer.specs.Acknowledged.Taking.{fed, feeds, feeding, data_size, status_told, writes_status, has_prohibit}
use Rattle.bearer.specs.Acknowledged.Taking.{prohibit_told, data_told, answer_of, taking as told_taking}
use Rattle.bearer.specs.Acknowledged.Timing.{poll_told as polled_told, timer_told, clock_told, expiry, Ticking, told_of}
use Rattle.bearer.specs.Acknowledged.Timing.{expires_if as expired_if, counts, has_ended, ticks as ticked_by}
use Rattle.bearer.specs.Acknowledged.Timing.{discards as discarded, ticked}
use Rattle.bearer.specs.declared.flow.Flow.TheVariants.{Am}
use Rattle.bearer.specs.Hearing.{expiry as flow_expiry, ticking}
use Rattle.bearer.specs.Taking.{told}
use Rattle.law_bearer.specs.AnyBearer.Calls.{Call, Submit, Take, Arrive, Expire, Tick, SetDiscard}
use Rattle.law_bearer.specs.AmBearer.Calls.{tells}
use Rattle.promises.specs.Events.{is_lost, losses}
use Rattle.law_deliver.proofs.SrbDelivery.Quiet.{IsCall}

pub none_then : (xs ys : List Event) → losses xs ≡ [] → losses ys ≡ [] → losses (xs ++ ys) ≡ []
none_then xs ys p q = filter-append is_lost xs ys ∙ ap (λ (l : List Event). l ++ losses ys) p ∙ q

-- ---- what RLC tells

pub ups_none : (lcid : ℕ) (sdus : List (List ℕ)) → losses (ups lcid sdus) ≡ []
ups_none lcid [] = refl
ups_none lcid (sdu ∷ sdus) = ups_none lcid sdus

turned_none : (lcid : ℕ) (t : Turned) → losses (turned_told lcid t) ≡ []
turned_none lcid t = by t.stopped t.started
  where
    by : (stopped started : Bool) → losses (turned_told lcid (record { stopped = stopped; started = started })) ≡ []
    by true true = refl
    by true false = refl
    by false true = refl
    by false false = refl

pub landed_none : (lcid : ℕ) (l : Landed) (t : Turned) → (l ≡ Clash → ⊥) → losses (landed_told lcid l t) ≡ []
landed_none lcid Kept t apart = turned_none lcid t
landed_none lcid Repeat t apart = refl
landed_none lcid Outside t apart = refl
landed_none lcid Clash t apart = absurd (apart refl)

stopped_none : (lcid : ℕ) (b : Bool) → losses (stopped_told lcid b) ≡ []
stopped_none lcid true = refl
stopped_none lcid false = refl

started_none : (lcid : ℕ) (b : Bool) → losses (started_told lcid b) ≡ []
started_none lcid true = refl
started_none lcid false = refl

pub status_none : (h : Heard) (pdcp : Ends) (tx : Sender) → losses (status_work h (work pdcp tx [])).events ≡ []
status_none heard_as.Ignored pdcp tx = refl
status_none (heard_as.Limit sn) pdcp tx = refl
status_none (heard_as.Applied stopped) pdcp tx =
    none_then (stopped_told pdcp.lcid stopped) (started_told pdcp.lcid (starts tx (has_more pdcp)))
    (stopped_none pdcp.lcid stopped) (started_none pdcp.lcid (starts tx (has_more pdcp)))

-- ---- a timer expires

polls_none : (lcid : ℕ) (x : PollExpired) → losses (told_of (polled_told lcid x)) ≡ []
polls_none lcid polls.NotRunning = refl
polls_none lcid polls.Done = refl
polls_none lcid (polls.Limit sn) = refl

again_none : (lcid : ℕ) (clock : Clock) (again : Bool) → losses (expired_told lcid clock again) ≡ []
again_none lcid clock true = refl
again_none lcid clock false = refl

timer_none : (lcid : ℕ) (clock : Clock) (x : Expired) → losses (told_of (timer_told lcid clock x)) ≡ []
timer_none lcid clock NotRunning = refl
timer_none lcid clock (Done again) = again_none lcid clock again

clock_none : (clock : Clock) (b : State) → losses (told_of (clock_told clock b)) ≡ []
clock_none Poll b = polls_none b.pdcp.lcid (poll_expiry b.tx (has_more b.pdcp))
clock_none Reorder b = timer_none b.pdcp.lcid Reorder (reorder_answer b.rx.mark b.rx)
clock_none Prohibit b = timer_none b.pdcp.lcid Prohibit (prohibit_answer b.rx)

expiry_none : (clock : Clock) (b : State) → losses (told_of (expiry b clock)) ≡ []
unfolding expiry
expiry_none clock b = clock_none clock b

-- ---- a TTI begins

ended_none : (ended : Bool) (clock : Clock) (t : Ticking) → losses t.events ≡ []
    → losses (expired_if ended clock t).events ≡ []
ended_none true clock t q = none_then t.events (told_of (expiry t.bearer clock)) q (expiry_none clock t.bearer)
ended_none false clock t q = q

ticks_none : (clock : Clock) (t : Ticking) → losses t.events ≡ [] → losses (ticked_by clock t).events ≡ []
ticks_none clock t q = ended_none (has_ended clock t.bearer) clock (record t { bearer = counts clock t.bearer }) q

late_by : (overdue : Bool) (lcid len : ℕ) (more : List Event) → losses more ≡ []
    → losses (if overdue then events.Discard lcid len ∷ more else []) ≡ []
late_by true lcid len more q = q
late_by false lcid len more q = refl

late_none : (lcid : ℕ) (ws : List Waits) (s : Sending) → losses (late_told lcid ws s) ≡ []
late_none lcid [] s = refl
late_none lcid (w ∷ ws) s =
    late_by (is_overdue s) lcid (length w.sdu) (late_told lcid ws (after_late s)) (late_none lcid ws (after_late s))

tick_none : (e : Ends) → losses (tick_told e) ≡ []
unfolding tick_told
tick_none e = late_none e.lcid e.tx.waiting (pdcp_ticked e.tx)

settled_none : (a : Bool) (w : Work) → losses w.events ≡ [] → losses (settled_if a w).events ≡ []
settled_none true w q =
    none_then w.events (started_told w.pdcp.lcid (starts w.tx (has_more w.pdcp))) q
    (started_none w.pdcp.lcid (starts w.tx (has_more w.pdcp)))
settled_none false w q = q

discards_none : (t : Ticking) → losses t.events ≡ [] → losses (discarded t).events ≡ []
discards_none t q =
    let told = tick_told t.bearer.pdcp in
    settled_none (nat_lt 0 (length told)) (work (after_discards t.bearer.pdcp) t.bearer.tx (t.events ++ told))
    (none_then t.events told q (tick_none t.bearer.pdcp))

tti_none : (b : State) → losses (ticked b).events ≡ []
unfolding ticked
tti_none b =
    let t0 : Ticking = record { bearer = b; events = [] } in
    discards_none (ticked_by Prohibit (ticked_by Reorder (ticked_by Poll t0)))
    (ticks_none Prohibit (ticked_by Reorder (ticked_by Poll t0))
    (ticks_none Reorder (ticked_by Poll t0) (ticks_none Poll t0 refl)))

-- ---- a new block

report_none : (lcid : ℕ) (r : Result UserPdu PdcpRefusal) → losses (report_told lcid r) ≡ []
report_none lcid (Err refusal) = refl
report_none lcid (Ok (Sdu sn octets)) = refl
report_none lcid (Ok (Report fms bitmap)) = refl

own_none : (lcid : ℕ) (kind : PdcpKind) (pdu : List ℕ) → losses (own_report_told lcid kind pdu) ≡ []
own_none lcid Srb pdu = refl
own_none lcid (Um bits) pdu = report_none lcid (user_at bits pdu)
own_none lcid (AmKind bits) pdu = report_none lcid (user_at bits pdu)

taken_none : (lcid : ℕ) (kind : PdcpKind) (count : Option ℕ) (len : ℕ) (pdu : List ℕ)
    → losses (taken_told lcid kind count len pdu) ≡ []
taken_none lcid kind (Some count) len pdu = refl
taken_none lcid kind None len pdu = own_none lcid kind pdu

next_none : (lcid : ℕ) (kind : PdcpKind) (o : Option Next) → losses (next_told lcid kind o) ≡ []
next_none lcid kind None = refl
next_none lcid kind (Some n) = taken_none lcid kind n.count n.len n.octets

taking_none : (e : Ends) → losses (taking_told e) ≡ []
unfolding taking_told
taking_none e = next_none e.lcid e.kind (taking e.tx)

hungry_by : (b : Bool) (v w : Work) → losses v.events ≡ [] → losses w.events ≡ []
    → losses (if b then v else w).events ≡ []
hungry_by true v w p q = p
hungry_by false v w p q = q

feeds_none : (os : List Offer) (size : ℕ) (held : Option ℕ) (w : Work) → losses w.events ≡ []
    → losses (feeds os size held w).events ≡ []
feeds_none [] size held w q = q
feeds_none (o ∷ os) size held w q =
    hungry_by (hungry w.tx size held) (feeds os size held (fed w)) w
    (feeds_none os size held (fed w) (none_then w.events (taking_told w.pdcp) q (taking_none w.pdcp))) q

due_none : (lcid sn : ℕ) (has due : Bool)
    → losses (if due then events.Send lcid how.Status sn ∷ prohibit_told lcid has else []) ≡ []
due_none lcid sn true true = refl
due_none lcid sn false true = refl
due_none lcid sn has false = refl

sent_none : (lcid : ℕ) (first : Bool) (number : ℕ) (polled : Bool)
    → losses (data_told lcid (Piece number first polled [])) ≡ []
sent_none lcid true number true = refl
sent_none lcid true number false = refl
sent_none lcid false number true = refl
sent_none lcid false number false = refl

data_none : (lcid : ℕ) (t : Taken) → losses (data_told lcid t) ≡ []
data_none lcid (Piece number first polled octets) = sent_none lcid first number polled
data_none lcid Idle = refl
data_none lcid Small = refl
data_none lcid Shut = refl
data_none lcid Held = refl
data_none lcid Stopped = refl

block_none : (b : State) (share : ℕ) (held : Option ℕ) → losses (told b.pdcp.lcid (Am b) share held) ≡ []
unfolding told told_taking
block_none b share held =
    let v = feeding b share held in
    let first : Work = work b.pdcp b.tx (status_told b.pdcp.lcid (has_prohibit b) b.rx share) in
    none_then v.events (data_told v.pdcp.lcid (answer_of v (data_size b share) held))
    (feeds_none (offers b.pdcp.tx) (data_size b share) held first
    (due_none b.pdcp.lcid (ack b.rx (share - 3) % 1024) (has_prohibit b) (writes_status b.rx share)))
    (data_none v.pdcp.lcid (answer_of v (data_size b share) held))

-- ---- any call that brings no PDU

pub calls_lose_none : (b : State) (c : Call) → IsCall c → losses (tells b c) ≡ []
unfolding flow_expiry ticking
calls_lose_none b (Submit sdu) g = refl
calls_lose_none b (Take share held) g = block_none b share held
calls_lose_none b (Arrive pdu) g = absurd g
calls_lose_none b (Expire clock) g = expiry_none clock b
calls_lose_none b Tick g = tti_none b
calls_lose_none b (SetDiscard ttis) g = refl
