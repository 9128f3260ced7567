-- Where no discard timer is set none is discarded.
use Rattle.std.proofs.Common.{◌≡◌, ◌-◌, ℕ, nat_lt, Bool, true, false, List, [], ◌∷◌, ◌++◌, map, length, take, Option}
use Rattle.std.proofs.Common.{Some, None, Result, Ok, Err, refl, ap, sym, ◌∙◌}
use Rattle.std.specs.List.{AllByRecursion}
use Rattle.bearer.specs.declared.flow.Flow.{Flow}
use Rattle.bearer.specs.declared.flow.Flow.TheVariants.{Am}
use Rattle.bearer.specs.Acknowledged.State.{State}
use Rattle.bearer.specs.Acknowledged.Hearing.{confirms}
use Rattle.bearer.specs.Acknowledged.Taking.{writes_status, data_size}
use Rattle.bearer.specs.Acknowledged.Timing.{has_ended}
use Rattle.law_bearer.specs.AnyBearer.Acknowledged.{offers_in, has_more_behind}
use Rattle.law_bearer.specs.AnyBearer.Calls.{Call, Submit, Take, Arrive, Expire, Tick, SetDiscard, Step, Calls, Restart}
use Rattle.law_bearer.specs.AnyBearer.Calls.{after}
use Rattle.bearer_pdcp.specs.Discarding.{tick_told}
use Rattle.bearer_pdcp.specs.Ends.{Ends}
use Rattle.bearer_pdcp.specs.Hearing.{applies}
use Rattle.bearer_types.specs.declared.event.Event.{Event}
use Rattle.eps_sec.specs.declared.Keys.{Keys}
use Rattle.l2_types.specs.declared.event.Clock.{Clock}
use Rattle.l2_types.specs.declared.event.Clock.TheVariants.{Poll, Reorder, Prohibit}
use Rattle.pdcp_rx.specs.declared.got.Cause.TheVariants.{Arrived}
use Rattle.pdcp_rx.specs.Heard.{Heard, Bad, Told, Data, heard}
use Rattle.pdcp_tx_store.specs.declared.given.Sent.{Sent}
use Rattle.pdcp_tx_store.specs.Waiting.{Waits}
use Rattle.pdcp_tx.specs.Runs.{Call as PdcpCall, Submit as Submits, Take as Takes, Confirm, Report, Owe, Tick as Ticks}
use Rattle.pdcp_tx.specs.Runs.{Late, after as asked}
use Rattle.pdcp_tx.specs.State.{State as Sending, submitted, took, took_new, took_again, took_owed, confirmed, reported}
use Rattle.pdcp_tx.specs.State.{reported_from, fms_count, after_late, restarted}
use Rattle.rlc_am_tx.specs.declared.answers.Heard.{Heard as HeardStatus}
use Rattle.rlc_am_tx.specs.declared.answers.Heard.TheVariants as heard_as
use Rattle.rlc_am_tx.specs.Machine.{heard as heard_status, after_status}
use Rattle.rlc_am_rx.specs.Machine.{arrived as landed_in}
use Rattle.rlc_pdu.specs.declared.fault.RlcRefusal.{RlcRefusal}
use Rattle.rlc_pdu.specs.Pdus.{AcknowledgedPdu, Payload, Status as Control}
use Rattle.rlc_pdu.specs.Reading.{am_at}
use Rattle.law_rlc.specs.AmSender.Run.{Take as Taking}
use Rattle.law_rlc.specs.AmReceiver.Run.{Write}
use Rattle.law_bearer.specs.AmBearer.Calls.{deeds_of, only_if, settles, hands_up, settles_by, confirms_all, arrives}
use Rattle.law_bearer.specs.AmBearer.Calls.{expires, ticks, discards}
use Rattle.law_bearer.specs.AmBearer.Deeds.{Deed, Feeds, Sends, Confirms, Receives, HandsUp, Asks, Sets, does, does_all}
use Rattle.law_bearer.specs.AmBearer.Deeds.{after_heard, confirms_first, hands_first, hears_one}
use Rattle.law_bearer.specs.AmBearer.Lives.{restarts}
use Rattle.law_bearer.proofs.AmBearer.Calls.{calls_are_deeds}
use Rattle.law_deliver.specs.AmFlow.Pair.{called}
use Rattle.law_deliver.proofs.AmFlow.Sending.{is_called}
use Rattle.law_deliver.proofs.AmChannel.Bearers.{IsSteady, called_steady, restarts_steady, same_bearer}
use Rattle.std.proofs.lemmas.Grind.{flat_map-append}
use Rattle.bearer.specs.Hearing.{ticking}
use Rattle.bearer.specs.Acknowledged.State.{has_more, Work, work}
use Rattle.bearer.specs.Acknowledged.Hearing.{settled_if, started_told}
use Rattle.bearer.specs.Acknowledged.Timing.{Ticking, told_of, poll_told, timer_told, expiry, expires_if, counts}
use Rattle.bearer.specs.Acknowledged.Timing.{ticks as ticked_by, ticked as am_ticked}
use Rattle.bearer_pdcp.specs.Discarding.{after_tick as after_discards, late_told}
use Rattle.bearer_pdcp.specs.Telling.{expired_told}
use Rattle.pdcp_tx.specs.State.{ticked as pdcp_ticked}
use Rattle.rlc_am_tx.specs.declared.answers.PollExpired.{PollExpired}
use Rattle.rlc_am_tx.specs.declared.answers.PollExpired.TheVariants as polls
use Rattle.rlc_am_tx.specs.Machine.{expiry as poll_expiry, settles as sender_settles}
use Rattle.rlc_am_rx.specs.Machine.{reorder_answer, prohibit_answer}
use Rattle.rlc_pdu.specs.declared.Expired.{Expired}
use Rattle.rlc_pdu.specs.declared.Expired.TheVariants.{Done, NotRunning}
use Rattle.law_deliver.specs.AmFlow.Ups.{discarded_in}
use Rattle.promises.specs.Events.{discards_in, discards_on}
use Rattle.law_deliver.proofs.AmChannel.Ends.{all_discards}
use Rattle.law_deliver.proofs.AmChannel.Waiting.{ticks_pdcp}

-- ---- a sender keeps the length of its discard timers

abbrev KeepsLength : Sending → Sending → Type 0
KeepsLength s t = t.discard ≡ s.discard

new_keeps : (s : Sending) (ws : List Waits) → KeepsLength s (took_new ws s)
new_keeps s [] = refl
new_keeps s (w ∷ ws) = refl

again_keeps : (s : Sending) (ss : List Sent) → KeepsLength s (took_again ss s)
again_keeps s [] = new_keeps s (take (s.bound - s.next) s.waiting)
again_keeps s (x ∷ xs) = refl

owed_keeps : (s : Sending) (o : Option (List ℕ)) → KeepsLength s (took_owed o s)
owed_keeps s None = again_keeps s s.again
owed_keeps s (Some report) = refl

report_keeps : (s : Sending) (from : Option ℕ) (bitmap : List ℕ) → KeepsLength s (reported_from from s bitmap)
report_keeps s None bitmap = refl
report_keeps s (Some from) bitmap = refl

asked_keeps : (s : Sending) (c : PdcpCall) → KeepsLength s (asked s c)
unfolding submitted took confirmed reported after_late
asked_keeps s (Submits sdu) = refl
asked_keeps s Takes = owed_keeps s s.owed
asked_keeps s (Confirm place) = refl
asked_keeps s (Report fms bitmap) = report_keeps s (fms_count s.kind s.base fms) bitmap
asked_keeps s (Owe report) = refl
asked_keeps s Ticks = refl
asked_keeps s Late = refl

told_keeps : (h : Heard) (s : Sending) → KeepsLength s (after_heard h s)
told_keeps (Bad refusal) s = refl
told_keeps (Told fms bitmap) s = asked_keeps s (Report fms bitmap)
told_keeps (Data sn body) s = refl

-- ---- and so does each deed but that which sets it

abbrev SetsNone : Deed → Type 0
SetsNone Feeds = Unit {0}
SetsNone (Sends c) = Unit {0}
SetsNone Confirms = Unit {0}
SetsNone (Receives c) = Unit {0}
SetsNone HandsUp = Unit {0}
SetsNone (Asks c) = Unit {0}
SetsNone (Sets ttis) = ⊥

confirms_keep : (places : List ℕ) (b : State) → KeepsLength b.pdcp.tx (confirms_first places b).pdcp.tx
confirms_keep [] b = refl
confirms_keep (place ∷ places) b = asked_keeps b.pdcp.tx (Confirm place)

hands_keep : (sdus : List (List ℕ)) (b : State) → KeepsLength b.pdcp.tx (hands_first sdus b).pdcp.tx
hands_keep [] b = refl
hands_keep (sdu ∷ sdus) b = told_keeps (heard b.pdcp.rx.kind sdu) b.pdcp.tx

does_keep : (b : State) (deed : Deed) → SetsNone deed → KeepsLength b.pdcp.tx (does b deed).pdcp.tx
does_keep b Feeds q = asked_keeps b.pdcp.tx Takes
does_keep b (Sends c) q = refl
does_keep b Confirms q = confirms_keep b.tx.accounts.news b
does_keep b (Receives c) q = refl
does_keep b HandsUp q = hands_keep b.rx.out.ready b
does_keep b (Asks c) q = asked_keeps b.pdcp.tx c
does_keep b (Sets ttis) q = absurd q

all_keep : (deeds : List Deed) (b : State) → AllByRecursion SetsNone deeds
    → KeepsLength b.pdcp.tx (does_all deeds b).pdcp.tx
all_keep [] b q = refl
all_keep (deed ∷ deeds) b q = all_keep deeds (does b deed) q.1 ∙ does_keep b deed q.0

-- ---- which deeds a call is

then : (xs ys : List Deed) → AllByRecursion SetsNone xs → AllByRecursion SetsNone ys
    → AllByRecursion SetsNone (xs ++ ys)
then [] ys h k = k
then (x ∷ xs) ys h k = (h.0, then xs ys h.1 k)

each : {A : Type 0} (deed : Deed) (xs : List A) → SetsNone deed → AllByRecursion SetsNone (map (λ x. deed) xs)
each deed [] q = tt
each deed (x ∷ xs) q = (q, each deed xs q)

if_so : (b : Bool) (deed : Deed) → SetsNone deed → AllByRecursion SetsNone (only_if b deed)
if_so true deed q = (q, tt)
if_so false deed q = tt

hands_none : (sdus : List (List ℕ)) (e : Ends) → AllByRecursion SetsNone (hands_up sdus e)
hands_none [] e = tt
hands_none (sdu ∷ sdus) e =
    let d = hears_one sdu e in (
      tt,
      then (only_if (applies sdu Arrived e) (settles d)) (hands_up sdus d)
          (if_so (applies sdu Arrived e) (settles d) tt) (hands_none sdus d),
    )

settles_none : (h : HeardStatus) (e : Ends) → AllByRecursion SetsNone (settles_by h e)
settles_none heard_as.Ignored e = tt
settles_none (heard_as.Limit sn) e = tt
settles_none (heard_as.Applied stopped) e = (tt, tt)

arrives_none : (r : Result AcknowledgedPdu RlcRefusal) (b : State) → AllByRecursion SetsNone (arrives r b)
arrives_none (Err refused) b = tt
arrives_none (Ok (Payload pdu)) b = (tt, hands_none (landed_in b.rx pdu).out.ready b.pdcp)
arrives_none (Ok (Control pdu)) b =
    let places = (after_status b.tx pdu).accounts.news in
    let d = confirms places b.pdcp in (
      tt,
      then (confirms_all places) (settles_by (heard_status b.tx pdu) d) (each Confirms places tt)
          (settles_none (heard_status b.tx pdu) d),
    )

expires_none : (clock : Clock) (b : State) → SetsNone (expires clock b)
expires_none Poll b = tt
expires_none Reorder b = tt
expires_none Prohibit b = tt

ticks_none : (clock : Clock) (b : State) → AllByRecursion SetsNone (ticks clock b)
ticks_none Poll b = (tt, if_so (has_ended Poll b) (expires Poll b) tt)
ticks_none Reorder b = (tt, if_so (has_ended Reorder b) (expires Reorder b) tt)
ticks_none Prohibit b = (tt, if_so (has_ended Prohibit b) (expires Prohibit b) tt)

discards_none : (told : List Event) (e : Ends) → AllByRecursion SetsNone (discards told e)
discards_none told e = (
  tt,
  then (map (λ event. Asks Late) told) (only_if (nat_lt 0 (length told)) (settles (after_discards e)))
      (each (Asks Late) told tt) (if_so (nat_lt 0 (length told)) (settles (after_discards e)) tt),
)

-- ---- any call

abbrev pub IsUnset : Call → Type 0
IsUnset (Submit sdu) = Unit {0}
IsUnset (Take share held) = Unit {0}
IsUnset (Arrive pdu) = Unit {0}
IsUnset (Expire clock) = Unit {0}
IsUnset Tick = Unit {0}
IsUnset (SetDiscard ttis) = ⊥

call_sets : (b : State) (c : Call) → IsUnset c → AllByRecursion SetsNone (deeds_of b c)
call_sets b (Submit sdu) h = (tt, tt)
call_sets b (Take share held) h =
    let status = only_if (writes_status b.rx share) (Receives Write) in
    let feeds = map (λ (pdu : List ℕ). Feeds) (offers_in b share held) in
    then (status ++ feeds) (Sends (Taking (data_size b share) held (has_more_behind b share held)) ∷ [])
    (then status feeds (if_so (writes_status b.rx share) (Receives Write) tt)
    (each Feeds (offers_in b share held) tt)) (tt, tt)
call_sets b (Arrive pdu) h = arrives_none (am_at pdu) b
call_sets b (Expire clock) h = (expires_none clock b, tt)
call_sets b Tick h =
    let last = discards (tick_told b.pdcp) b.pdcp in
    then (ticks Poll b ++ ticks Reorder b ++ ticks Prohibit b) last
    (then (ticks Poll b ++ ticks Reorder b) (ticks Prohibit b)
    (then (ticks Poll b) (ticks Reorder b) (ticks_none Poll b) (ticks_none Reorder b)) (ticks_none Prohibit b))
    (discards_none (tick_told b.pdcp) b.pdcp)
call_sets b (SetDiscard ttis) h = absurd h

left_is : (bits l : ℕ) (b : State) (c : Call) → IsSteady bits l b → does_all (deeds_of b c) b ≡ called b c
left_is bits l b c h =
    same_bearer (does_all (deeds_of b c) b) (called b c) (sym (calls_are_deeds bits b c h.data' h.idle).left
    ∙ is_called b c)

called_unset : (bits l : ℕ) (b : State) (c : Call) → IsSteady bits l b → IsUnset c → b.pdcp.tx.discard ≡ None
    → (called b c).pdcp.tx.discard ≡ None
called_unset bits l b c h u q = ap (λ (d : State). d.pdcp.tx.discard) (sym (left_is bits l b c h))
    ∙ all_keep (deeds_of b c) b (call_sets b c u) ∙ q

-- ---- nothing is discarded as a TTI begins

both_none : (l : ℕ) (xs ys : List Event) → discards_on l xs ≡ [] → discards_on l ys ≡ [] → discards_on l (xs ++ ys) ≡ []
both_none l xs ys p q = flat_map-append (discards_in l) xs ys ∙ ap (λ (found : List ℕ). found ++ discards_on l ys) p ∙ q

start_tells : (starts : Bool) (l lcid : ℕ) → discards_on l (started_told lcid starts) ≡ []
start_tells true l lcid = refl
start_tells false l lcid = refl

again_tells : (again : Bool) (l lcid : ℕ) (clock : Clock) → discards_on l (expired_told lcid clock again) ≡ []
again_tells true l lcid clock = refl
again_tells false l lcid clock = refl

poll_tells : (l lcid : ℕ) (p : PollExpired) → discards_on l (told_of (poll_told lcid p)) ≡ []
poll_tells l lcid polls.NotRunning = refl
poll_tells l lcid polls.Done = refl
poll_tells l lcid (polls.Limit sn) = refl

timer_tells : (l lcid : ℕ) (clock : Clock) (x : Expired) → discards_on l (told_of (timer_told lcid clock x)) ≡ []
timer_tells l lcid clock NotRunning = refl
timer_tells l lcid clock (Done again) = again_tells again l lcid clock

expiry_tells : (l : ℕ) (clock : Clock) (b : State) → discards_on l (told_of (expiry b clock)) ≡ []
unfolding expiry
expiry_tells l Poll b = poll_tells l b.pdcp.lcid (poll_expiry b.tx (has_more b.pdcp))
expiry_tells l Reorder b = timer_tells l b.pdcp.lcid Reorder (reorder_answer b.rx.mark b.rx)
expiry_tells l Prohibit b = timer_tells l b.pdcp.lcid Prohibit (prohibit_answer b.rx)

ended_tells : (ended : Bool) (l : ℕ) (clock : Clock) (t : Ticking) → discards_on l t.events ≡ []
    → discards_on l (expires_if ended clock t).events ≡ []
ended_tells true l clock t q = both_none l t.events (told_of (expiry t.bearer clock)) q (expiry_tells l clock t.bearer)
ended_tells false l clock t q = q

late_tells : (l lcid : ℕ) (ws : List Waits) (s : Sending) → s.discard ≡ None → discards_on l (late_told lcid ws s) ≡ []
late_tells l lcid [] s q = refl
late_tells l lcid (w ∷ ws) s q = rw q refl

settled_tells : (settles' : Bool) (l : ℕ) (w : Work) → discards_on l w.events ≡ []
    → discards_on l (settled_if settles' w).events ≡ []
settled_tells true l w q =
    both_none l w.events (started_told w.pdcp.lcid (sender_settles w.tx (has_more w.pdcp))) q
    (start_tells (sender_settles w.tx (has_more w.pdcp)) l w.pdcp.lcid)
settled_tells false l w q = q

tti_tells : (l : ℕ) (b : State) → b.pdcp.tx.discard ≡ None → discards_on l (ticking (Am b)) ≡ []
unfolding ticking am_ticked tick_told
tti_tells l b q =
    let t1 = ticked_by Poll (record { bearer = b; events = [] }) in
    let t2 = ticked_by Reorder t1 in
    let t3 = ticked_by Prohibit t2 in
    let d = t3.bearer.pdcp in
    let same : d ≡ b.pdcp = ticks_pdcp Prohibit t2 ∙ ticks_pdcp Reorder t1
    ∙ ticks_pdcp Poll (record { bearer = b; events = [] }) in
    let first : discards_on l t1.events ≡ [] =
    ended_tells (has_ended Poll b) l Poll (record { bearer = counts Poll b; events = [] }) refl in
    let second : discards_on l t2.events ≡ [] =
    ended_tells (has_ended Reorder t1.bearer) l Reorder (record t1 { bearer = counts Reorder t1.bearer }) first in
    let third : discards_on l t3.events ≡ [] =
    ended_tells (has_ended Prohibit t2.bearer) l Prohibit (record t2 { bearer = counts Prohibit t2.bearer })
    second in
    let off : d.tx.discard ≡ None = ap (λ (e : Ends). e.tx.discard) same ∙ q in
    let told = late_told d.lcid d.tx.waiting (pdcp_ticked d.tx) in
    settled_tells (nat_lt 0 (length told)) l (work (after_discards d) t3.bearer.tx (t3.events ++ told))
    (both_none l t3.events told third (late_tells l d.lcid d.tx.waiting (pdcp_ticked d.tx) off))

discards_in_none : (l : ℕ) (b : State) (c : Call) → b.pdcp.tx.discard ≡ None → discarded_in l (Am b) c ≡ []
discards_in_none l b (Submit sdu) q = refl
discards_in_none l b (Take share held) q = refl
discards_in_none l b (Arrive pdu) q = refl
discards_in_none l b (Expire clock) q = refl
discards_in_none l b Tick q = tti_tells l b q
discards_in_none l b (SetDiscard ttis) q = refl

-- ---- through lives

abbrev pub IsUnsetStep : Step → Type 0
IsUnsetStep (Calls c) = IsUnset c
IsUnsetStep (Restart keys) = Unit {0}

restarts_unset : (b : State) (keys : Keys) → b.pdcp.tx.discard ≡ None → (restarts b keys).pdcp.tx.discard ≡ None
unfolding restarted
restarts_unset b keys q = q

pub none_discarded : (bits l : ℕ) (xs : List Step) (b : State) → IsSteady bits l b → b.pdcp.tx.discard ≡ None
    → AllByRecursion IsUnsetStep xs → all_discards l (Am b) xs ≡ []
none_discarded bits l [] b h q u = refl
none_discarded bits l (Calls c ∷ xs) b h q u =
    ap (λ (found : List ℕ). found ++ all_discards l (after (Am b) c) xs) (discards_in_none l b c q)
    ∙ ap (λ (f : Flow). all_discards l f xs) (is_called b c)
    ∙ none_discarded bits l xs (called b c) (called_steady bits l b c h) (called_unset bits l b c h u.0 q) u.1
none_discarded bits l (Restart keys ∷ xs) b h q u =
    let r = restarts_steady bits l b keys h in
    ap (λ (f : Flow). all_discards l f xs) r.left
    ∙ none_discarded bits l xs (restarts b keys) r.steady (restarts_unset b keys q) u.1
