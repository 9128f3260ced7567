-- A signalling bearer beside what is kept of the flow that it sends, while the PDUs of a journal are checked: in calls
-- in which nothing is written, as a life begins, as the next one does, and as a group ends.
use Rattle.std.proofs.Common.{◌≡◌, ◌≤◌, ℕ, Bool, true, false, nat_lt, if◌then◌else◌, List, [], ◌∷◌, ◌++◌, map, length}
use Rattle.std.proofs.Common.{None, Result, Ok, Err, refl, ap, sym, subst, ◌∙◌, arith}
use Rattle.bearer.specs.Acknowledged.Hearing.{started_told, settled_if, heard_work, hears, hears_all, confirms}
use Rattle.bearer.specs.Acknowledged.Hearing.{all_confirmed, status_work, arrived_left, after_arrival}
use Rattle.bearer.specs.Acknowledged.Lives.{Ending, ends_with, stopped as am_stopped, restarted as am_restarted}
use Rattle.bearer.specs.Acknowledged.State.{State, Work, work, has_more, fresh}
use Rattle.bearer.specs.Acknowledged.Timing.{Ticking, told_of, poll_told, timer_told, expiry as am_expiry, expires_if}
use Rattle.bearer.specs.Acknowledged.Timing.{counts, has_ended, ticks, discards, ticked as am_ticked}
use Rattle.bearer.specs.Hearing.{arrived, expired, ticking, ticked, with_discard}
use Rattle.bearer.specs.Submitting.{refusal, submitted as flow_submitted_by}
use Rattle.bearer.specs.declared.flow.Flow.{Flow as BearerFlow}
use Rattle.bearer.specs.declared.flow.Flow.TheVariants.{Am}
use Rattle.bearer_pdcp.specs.Discarding.{tick_told, after_tick}
use Rattle.bearer_pdcp.specs.Ends.{Ends, begun as begun_pdcp}
use Rattle.bearer_pdcp.specs.Hearing.{applies}
use Rattle.bearer_pdcp.specs.Telling.{landed_told, expired_told}
use Rattle.bearer_types.specs.declared.config.BearerConfig.{BearerConfig}
use Rattle.bearer_types.specs.declared.event.Event.{Event}
use Rattle.eps_sec.specs.declared.Keys.{Keys}
use Rattle.l2_types.specs.declared.event.Clock.{Clock}
use Rattle.l2_types.specs.declared.event.Clock.TheVariants.{Poll, Reorder, Prohibit}
use Rattle.l2_types.specs.declared.side.Side.{Side}
use Rattle.pdcp_pdu.specs.Kinds.{is_am}
use Rattle.pdcp_pdu.specs.declared.PdcpKind.TheVariants as pdcp
use Rattle.pdcp_rx.specs.declared.Cause.TheVariants.{Arrived}
use Rattle.pdcp_tx.specs.State.{waiting_on}
use Rattle.pdcp_tx_store.specs.Waiting.{Waits}
use Rattle.pdu_show.specs.declared.kinds.Layout.{Layout}
use Rattle.pdu_show.specs.declared.kinds.Layout.TheVariants as layouts
use Rattle.rlc_am_rx.specs.Machine.{landed, turned, arrived as landed_in, finished, reorder_answer, prohibit_answer}
use Rattle.rlc_am_tx.specs.Machine.{heard, after_status, settles as starts, expiry as poll_expiry}
use Rattle.rlc_am_tx.specs.declared.answers.Heard.{Heard}
use Rattle.rlc_am_tx.specs.declared.answers.Heard.TheVariants as heard_as
use Rattle.rlc_am_tx.specs.declared.answers.PollExpired.{PollExpired}
use Rattle.rlc_am_tx.specs.declared.answers.PollExpired.TheVariants as polls
use Rattle.rlc_pdu.specs.declared.Expired.{Expired}
use Rattle.rlc_pdu.specs.declared.Expired.TheVariants.{Done, NotRunning}
use Rattle.rlc_pdu.specs.declared.fault.RlcRefusal.{RlcRefusal}
use Rattle.rlc_pdu.specs.Pdus.{AcknowledgedPdu, Payload, Status}
use Rattle.rlc_pdu.specs.Reading.{am_at}
use Rattle.journal_sent.specs.RightSent.{Flow}
use Rattle.journal_sent.specs.SentFlows.{cover_as, flow_begun, flow_renewed, flow_submitted, floored, is_data}
use Rattle.journal_sent.specs.SentFlows.{waiting_behind}
use Rattle.journal_sent.specs.SentPdus.{histories}
use Rattle.law_bearer.specs.AnyBearer.Calls.{Call as BearerCall, Submit, Take, Arrive, Expire, Tick, SetDiscard}
use Rattle.law_bearer.specs.AnyBearer.Queue.{submits}
use Rattle.law_bearer.proofs.AnyBearer.Acknowledged.{expiry_same, ticked_is}
use Rattle.law_bearer.proofs.AnyBearer.Between.{IsBetween}
use Rattle.law_bearer.proofs.AnyBearer.SenderCalls.{all_then}
use Rattle.law_deliver.specs.AmFlow.Pair.{called}
use Rattle.law_deliver.specs.AmFlow.Ups.{tells_in}
use Rattle.law_deliver.proofs.AmFlow.Sending.{is_called}
use Rattle.law_run.proofs.OwnPdus.Bearers.{IsQuiet}
use Rattle.law_sound.proofs.QueueBeside.{IsQueueOf, IsSignalledBy, IsQueuedBy, AreRightHere, IsTakenIn, KeepsOne}
use Rattle.law_sound.proofs.QueueBeside.{queue_over, queue_submits}
use Rattle.law_sound.proofs.QueueEvents.{IsAside, AreAside, over_then, right_then, aside_over, aside_right}
use Rattle.law_sound.proofs.QueueEvents.{arrivals_aside, expiries_aside}
use Rattle.law_sound.proofs.QueuePdcp.{queue_ticks, queue_submitted, queue_heard, queue_confirmed, queue_discards}
use Rattle.law_sound.proofs.QueuePdcp.{queue_begun, queue_restarts}
use Rattle.law_sound.proofs.SentBeside.{IsRun}
use Rattle.law_sound.proofs.SentCalls.{begun_run, call_runs, call_base}

-- ---- PDCP's sender, as a PDU arrives

module _ (f : Flow) where
  abbrev Queues : Ends → Type 0
  Queues e = IsQueueOf pdcp.Srb e f

  settled_queues : (b : Bool) (w : Work) → Queues w.pdcp → Queues (settled_if b w).pdcp
  settled_queues true w h = h
  settled_queues false w h = h

  hearing_queues : (sdus : List (List ℕ)) (w : Work) → Queues w.pdcp → Queues (hears_all sdus w).pdcp
  hearing_queues [] w h = h
  hearing_queues (sdu ∷ sdus) w h =
      hearing_queues sdus (hears sdu w)
      (settled_queues (applies sdu Arrived w.pdcp) (heard_work sdu w)
      (queue_heard pdcp.Srb refl sdu Arrived w.pdcp f h))

  confirmed_queues : (places : List ℕ) (e : Ends) → Queues e → Queues (confirms places e)
  confirmed_queues [] e h = h
  confirmed_queues (place ∷ places) e h =
      confirmed_queues places _ (queue_confirmed pdcp.Srb refl e place f h)

  status_queues : (x : Heard) (w : Work) → Queues w.pdcp → Queues (status_work x w).pdcp
  status_queues heard_as.Ignored w h = h
  status_queues (heard_as.Limit sn) w h = h
  status_queues (heard_as.Applied stopped) w h = h

  arrived_queues : (r : Result AcknowledgedPdu RlcRefusal) (b : State) → Queues b.pdcp
      → Queues (arrived_left r b).pdcp
  arrived_queues (Err fault) b h = h
  arrived_queues (Ok (Payload pdu)) b h =
      hearing_queues (landed_in b.rx pdu).out.ready
      (work b.pdcp b.tx (landed_told b.pdcp.lcid (landed b.rx pdu) (turned b.rx pdu))) h
  arrived_queues (Ok (Status pdu)) b h =
      let s = after_status b.tx pdu in
      status_queues (heard b.tx pdu) (work (confirms s.accounts.news b.pdcp) (all_confirmed s) [])
      (confirmed_queues s.accounts.news b.pdcp h)

  arrival_queues : (b : State) (pdu : List ℕ) → Queues b.pdcp → Queues (after_arrival b pdu).pdcp
  unfolding after_arrival
  arrival_queues b pdu h = arrived_queues (am_at pdu) b h

-- ---- what is told as a TTI begins

poll_aside : (lcid : ℕ) (p : PollExpired) → AreAside (told_of (poll_told lcid p))
poll_aside lcid polls.NotRunning = tt
poll_aside lcid polls.Done = (tt, tt)
poll_aside lcid (polls.Limit sn) = (tt, (tt, tt))

again_aside : (lcid : ℕ) (clock : Clock) (again : Bool) → AreAside (expired_told lcid clock again)
again_aside lcid clock true = (tt, (tt, tt))
again_aside lcid clock false = (tt, tt)

timer_aside : (lcid : ℕ) (clock : Clock) (x : Expired) → AreAside (told_of (timer_told lcid clock x))
timer_aside lcid clock NotRunning = tt
timer_aside lcid clock (Done again) = again_aside lcid clock again

expiry_aside : (b : State) (clock : Clock) → AreAside (told_of (am_expiry b clock))
unfolding am_expiry
expiry_aside b Poll = poll_aside b.pdcp.lcid (poll_expiry b.tx (has_more b.pdcp))
expiry_aside b Reorder = timer_aside b.pdcp.lcid Reorder (reorder_answer b.rx.mark b.rx)
expiry_aside b Prohibit = timer_aside b.pdcp.lcid Prohibit (prohibit_answer b.rx)

-- before its discard timers count, PDCP is as it was
record HasTicked (e : Ends) (x : Ticking) : Type 0 where
  aside : AreAside x.events
  same : x.bearer.pdcp ≡ e

expires_so : (e : Ends) (ended : Bool) (clock : Clock) (x : Ticking) → HasTicked e x
    → HasTicked e (expires_if ended clock x)
expires_so e true clock x h = record {
  aside = all_then IsAside x.events (told_of (am_expiry x.bearer clock)) h.aside (expiry_aside x.bearer clock);
  same = expiry_same x.bearer clock ∙ h.same;
}
expires_so e false clock x h = h

counts_so : (e : Ends) (clock : Clock) (x : Ticking) → HasTicked e x
    → HasTicked e (record x { bearer = counts clock x.bearer })
counts_so e Poll x h = record { aside = h.aside; same = h.same }
counts_so e Reorder x h = record { aside = h.aside; same = h.same }
counts_so e Prohibit x h = record { aside = h.aside; same = h.same }

ticks_so : (e : Ends) (clock : Clock) (x : Ticking) → HasTicked e x → HasTicked e (ticks clock x)
ticks_so e clock x h =
    expires_so e (has_ended clock x.bearer) clock (record x { bearer = counts clock x.bearer }) (counts_so e clock x h)

started_aside : (lcid : ℕ) (b : Bool) → AreAside (started_told lcid b)
started_aside lcid true = (tt, tt)
started_aside lcid false = tt

-- events that are as others for the flow
record IsTold (f : Flow) (told own : List Event) : Type 0 where
  right : AreRightHere own f → AreRightHere told f
  over : queue_over told f ≡ queue_over own f

settled_told : (f : Flow) (b : Bool) (w : Work) (own : List Event) → IsTold f w.events own
    → IsTold f (settled_if b w).events own
settled_told f false w own h = h
settled_told f true w own h =
    let last = started_told w.pdcp.lcid (starts w.tx (has_more w.pdcp)) in
    let aside = started_aside w.pdcp.lcid (starts w.tx (has_more w.pdcp)) in
    record {
      right = λ k. right_then w.events last f (h.right k) (aside_right last (queue_over w.events f) aside);
      over = over_then w.events last f ∙ (aside_over last (queue_over w.events f) aside ∙ h.over);
    }

behind_aside : (f : Flow) (first own : List Event) → AreAside first → IsTold f (first ++ own) own
behind_aside f first own aside =
    let same = aside_over first f aside in
    record {
      right = λ k. right_then first own f (aside_right first f aside)
          (subst (λ (g : Flow). AreRightHere own g) (sym same) k);
      over = over_then first own f ∙ ap (queue_over own) same;
    }

discards_so : (f : Flow) (e : Ends) (x : Ticking) → HasTicked e x → IsTold f (discards x).events (tick_told e)
discards_so f e x h =
    let told = tick_told x.bearer.pdcp in
    subst (λ (d : Ends). IsTold f (discards x).events (tick_told d)) h.same
    (settled_told f (nat_lt 0 (length told)) (work (after_tick x.bearer.pdcp) x.bearer.tx (x.events ++ told)) told
    (behind_aside f x.events told h.aside))

ticking_so : (f : Flow) (b : State) → IsTold f (am_ticked b).events (tick_told b.pdcp)
unfolding am_ticked
ticking_so f b =
    let e = b.pdcp in
    let x : Ticking = record { bearer = b; events = [] } in
    discards_so f e (ticks Prohibit (ticks Reorder (ticks Poll x)))
    (ticks_so e Prohibit (ticks Reorder (ticks Poll x))
    (ticks_so e Reorder (ticks Poll x) (ticks_so e Poll x (record { aside = tt; same = refl }))))

-- ---- calls in which nothing is written

-- all but the SDUs that wait stays
record IsLeft (f g : Flow) : Type 0 where
  layout : g.layout ≡ f.layout
  floor : g.floor ≡ f.floor
  stream : g.stream ≡ f.stream

signalled : (b : State) (c : BearerCall) (f g : Flow) → IsQuiet c → IsSignalledBy b f → IsLeft f g
    → IsQueueOf pdcp.Srb (called b c).pdcp g → IsSignalledBy (called b c) g
signalled b c f g quiet h left queue =
    let d = called b c in
    let is = is_called b c in
    let low = h.floor_low in
    let floor = left.floor in
    let more = call_base b d c is in
    record {
      layout_is = left.layout ∙ h.layout_is;
      queue = queue;
      run = subst (IsRun d.tx) (sym left.stream) (call_runs b d c f.stream quiet is h.run);
      floor_low = omega (arith, low, floor, more);
    }

kept : (l : ℕ) (b : State) (c : BearerCall) (f : Flow)
    → AreRightHere (tells_in l (Am b) c) (queue_submits (submits c) f)
    → IsSignalledBy (called b c) (queue_over (tells_in l (Am b) c) (queue_submits (submits c) f))
    → KeepsOne l (Am b) c f
kept l b c f right h = record {
  right = right;
  behind = subst (λ (x : BearerFlow). IsQueuedBy x (queue_over (tells_in l (Am b) c) (queue_submits (submits c) f)))
      (sym (is_called b c)) h;
}

-- nothing is told of what waits
aside_keeps : (l : ℕ) (b : State) (c : BearerCall) (f : Flow) → IsQuiet c → submits c ≡ []
    → AreAside (tells_in l (Am b) c) → IsQueueOf pdcp.Srb (called b c).pdcp f → IsSignalledBy b f
    → KeepsOne l (Am b) c f
aside_keeps l b c f quiet none aside queue h =
    let told = tells_in l (Am b) c in
    let g = queue_submits (submits c) f in
    let same : queue_over told g ≡ f =
    aside_over told g aside ∙ ap (λ (sdus : List (List ℕ)). queue_submits sdus f) none in
    kept l b c f (aside_right told g aside)
    (subst (IsSignalledBy (called b c)) (sym same)
    (signalled b c f f quiet h (record { layout = refl; floor = refl; stream = refl }) queue))

arrive_keeps : (l : ℕ) (b : State) (pdu : List ℕ) (f : Flow) → IsBetween l (Am b) → IsSignalledBy b f
    → KeepsOne l (Am b) (Arrive pdu) f
unfolding arrived
arrive_keeps l b pdu f k h =
    aside_keeps l b (Arrive pdu) f tt refl (arrivals_aside l (Am b) pdu k) (arrival_queues f b pdu h.queue) h

expire_keeps : (l : ℕ) (b : State) (clock : Clock) (f : Flow) → IsBetween l (Am b) → IsSignalledBy b f
    → KeepsOne l (Am b) (Expire clock) f
unfolding expired
expire_keeps l b clock f k h =
    aside_keeps l b (Expire clock) f tt refl (expiries_aside l (Am b) clock k)
    (subst (λ (e : Ends). IsQueueOf pdcp.Srb e f) (sym (expiry_same b clock)) h.queue) h

discard_keeps : (l : ℕ) (b : State) (ttis : ℕ) (f : Flow) → IsSignalledBy b f → KeepsOne l (Am b) (SetDiscard ttis) f
unfolding with_discard
discard_keeps l b ttis f h =
    aside_keeps l b (SetDiscard ttis) f tt refl tt (queue_discards pdcp.Srb refl b.pdcp ttis f h.queue) h

submit_keeps : (l : ℕ) (b : State) (sdu : List ℕ) (f : Flow) → refusal (Am b) sdu ≡ None → IsSignalledBy b f
    → KeepsOne l (Am b) (Submit sdu) f
unfolding refusal flow_submitted_by
submit_keeps l b sdu f accepted h =
    let plain : is_data f.layout ≡ false = ap (λ (x : Layout). is_data x) h.layout_is in
    let g : Flow = record f { waiting = f.waiting ++ sdu ∷ [] } in
    let same : flow_submitted sdu f ≡ g = ap (λ (b' : Bool). if b' then f else g) plain in
    kept l b (Submit sdu) f tt
    (signalled b (Submit sdu) f (flow_submitted sdu f) tt h
    (record {
      layout = ap (λ (x : Flow). x.layout) same;
      floor = ap (λ (x : Flow). x.floor) same;
      stream = ap (λ (x : Flow). x.stream) same;
    }) (queue_submitted pdcp.Srb refl b.pdcp sdu f plain accepted h.queue))

tick_keeps : (l : ℕ) (b : State) (f : Flow) → IsSignalledBy b f → KeepsOne l (Am b) Tick f
unfolding ticking ticked
tick_keeps l b f h =
    let t = queue_ticks pdcp.Srb refl b.pdcp f h.queue in
    let g = queue_over (tick_told b.pdcp) f in
    let told = ticking_so f b in
    kept l b Tick f (told.right t.right)
    (subst (IsSignalledBy (called b Tick)) (sym told.over)
    (signalled b Tick f g tt h (record { layout = t.layout; floor = t.floor; stream = t.stream })
    (subst (λ (e : Ends). IsQueueOf pdcp.Srb e g) (sym (ticked_is b)) t.queue)))

pub srb_keeps : (l : ℕ) (b : State) (c : BearerCall) (f : Flow) → IsBetween l (Am b) → IsTakenIn (Am b) c
    → IsSignalledBy b f → KeepsOne l (Am b) c f
srb_keeps l b (Submit sdu) f k taken h = submit_keeps l b sdu f taken h
srb_keeps l b (Take share held) f k taken h = absurd taken
srb_keeps l b (Arrive pdu) f k taken h = arrive_keeps l b pdu f k h
srb_keeps l b (Expire clock) f k taken h = expire_keeps l b clock f k h
srb_keeps l b Tick f k taken h = tick_keeps l b f h
srb_keeps l b (SetDiscard ttis) f k taken h = discard_keeps l b ttis f h

-- ---- a life begins

pub srb_begins : (c : BearerConfig) (keys : Keys) (side : Side) → c.first ≡ 0
    → IsSignalledBy (fresh c pdcp.Srb keys side)
    (flow_begun histories (layouts.Am pdcp.Srb) (cover_as pdcp.Srb side c.channel.lcid keys))
unfolding fresh
srb_begins c keys side none = record {
  layout_is = refl;
  queue = subst (λ (n : ℕ). IsQueueOf pdcp.Srb (begun_pdcp c.channel.lcid pdcp.Srb n keys side)
      (flow_begun histories (layouts.Am pdcp.Srb) (cover_as pdcp.Srb side c.channel.lcid keys))) (sym none)
      (queue_begun pdcp.Srb refl (layouts.Am pdcp.Srb) c.channel.lcid keys side);
  run = begun_run c.tx;
  floor_low = omega arith;
}

-- ---- the next life begins: what waits is dropped

-- PDCP hears nothing as a life ends
last_pdcp : (b : Bool) (sdus : List (List ℕ)) (e : Ending) → b ≡ false → (ends_with b sdus e).pdcp ≡ e.pdcp
last_pdcp true sdus e off = absurd cc
last_pdcp false sdus e off = refl

stopped_pdcp : (b : State) → b.pdcp.kind ≡ pdcp.Srb → (am_stopped b).pdcp ≡ b.pdcp
unfolding am_stopped
stopped_pdcp b own =
    last_pdcp (is_am b.pdcp.kind) (finished b.rx) (record { pdcp = b.pdcp; events = [] }) (ap is_am own)

pub srb_restarts : (b : State) (keys : Keys) (f : Flow) → IsSignalledBy b f
    → IsSignalledBy (am_restarted (am_stopped b) keys) (flow_renewed histories keys f)
unfolding am_restarted
srb_restarts b keys f h =
    let e = (am_stopped b).pdcp in
    let queue : IsQueueOf pdcp.Srb e f =
    subst (λ (d : Ends). IsQueueOf pdcp.Srb d f) (sym (stopped_pdcp b h.queue.plain.own)) h.queue in
    let waits : waiting_behind f.layout f.waiting
    ≡ map (λ (w : Waits). w.sdu) (waiting_on pdcp.Srb e.tx.waiting) =
    ap (λ (x : Layout). waiting_behind x f.waiting) h.layout_is in
    record {
      layout_is = h.layout_is;
      queue = queue_restarts pdcp.Srb refl e keys f waits queue;
      run = begun_run (am_stopped b).tx_config;
      floor_low = omega arith;
    }

-- ---- a group ends: the fields of numbers below one are forgotten

pub srb_settles : (b : State) (n : ℕ) (f : Flow) → n ≤ b.tx.window.base → IsSignalledBy b f
    → IsSignalledBy b (floored histories n f)
srb_settles b n f low h = record {
  layout_is = h.layout_is;
  queue = record {
    cover_is = h.queue.cover_is;
    waiting_is = h.queue.waiting_is;
    given_is = h.queue.given_is;
    sizes = h.queue.sizes;
    plain = h.queue.plain;
    room = h.queue.room;
    wide = h.queue.wide;
  };
  run = h.run;
  floor_low = low;
}
