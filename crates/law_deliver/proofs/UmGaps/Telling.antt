-- The reordering timer of an unacknowledged bearer expires just where its end tells so.
use Rattle.std.proofs.Common.{◌≡◌, ℕ, ◌==◌, Bool, true, false, if◌then◌else◌, cond, unwrap_or, length, List, [], ◌∷◌}
use Rattle.std.proofs.Common.{◌++◌, Option, Some, None, Result, Ok, Err, append-nil, refl, ap, sym, subst, ◌∙◌, arith}
use Rattle.std.proofs.lemmas.Bool.Decides.{nat_tests}
use Rattle.std.proofs.lemmas.List.Concat.{flat_map-append}
use Rattle.bearer.specs.declared.flow.Flow.{Flow as Bearer}
use Rattle.bearer.specs.declared.flow.Flow.TheVariants.{Um}
use Rattle.bearer.specs.Hearing.{arriving, expiry, ticking}
use Rattle.bearer.specs.Lives.{stopping}
use Rattle.bearer.specs.Taking.{told}
use Rattle.law_bearer.specs.AnyBearer.Calls.{Call, Submit, Take, Arrive, Expire, Tick, SetDiscard, after as after_call}
use Rattle.law_bearer.proofs.AnyBearer.Between.{IsBetween}
use Rattle.bearer_pdcp.specs.Ends.{Ends}
use Rattle.bearer_pdcp.specs.Hearing.{got_told, heard_told, ups, is_applied, with_arrived}
use Rattle.bearer_pdcp.specs.Taking.{next_told, taken_told, own_report_told, report_told, taking_told}
use Rattle.bearer_pdcp.specs.Discarding.{late_told, tick_told}
use Rattle.bearer_pdcp.specs.Telling.{landed_told, expired_told}
use Rattle.bearer_types.specs.declared.event.Event.{Event}
use Rattle.bearer_types.specs.declared.event.Event.TheVariants as events
use Rattle.bearer.specs.Unacknowledged.Hearing.{Hearing, hears_all, arrived_told, arriving as um_arriving, expiry_told}
use Rattle.bearer.specs.Unacknowledged.Hearing.{clock_told, expiry as um_expiry, told_of, counted_down, timed_told}
use Rattle.bearer.specs.Unacknowledged.Hearing.{timed_left, ticking as um_ticking}
use Rattle.bearer.specs.Unacknowledged.Lives.{stopping as um_stopping}
use Rattle.bearer.specs.Unacknowledged.State.{State}
use Rattle.bearer.specs.Unacknowledged.Taking.{Feeding, fed, feeds, feeding, size_in, has_more, why_idle, idle_told}
use Rattle.bearer.specs.Unacknowledged.Taking.{data_told, taking as um_taking}
use Rattle.law_deliver.proofs.AmChannel.Bearers.{between_after}
use Rattle.law_deliver.specs.AmFlow.Ups.{tells_in, tells_over}
use Rattle.promises.specs.Events.{is_on, told_on}
use Rattle.l2_num.specs.Timers.{ends}
use Rattle.l2_types.specs.declared.event.Clock.{Clock}
use Rattle.l2_types.specs.declared.event.Clock.TheVariants.{Poll, Reorder, Prohibit}
use Rattle.l2_types.specs.declared.Lost.TheVariants as lost
use Rattle.l2_types.specs.declared.Waits.{Waits}
use Rattle.pdcp_tx_store.specs.Waiting.{Waits as Waiting}
use Rattle.pdcp_pdu.specs.declared.PdcpRefusal.{PdcpRefusal}
use Rattle.pdcp_pdu.specs.declared.PdcpKind.{PdcpKind}
use Rattle.pdcp_pdu.specs.declared.PdcpKind.TheVariants as kinds
use Rattle.pdcp_pdu.specs.Pdus.{UserPdu, Sdu, Report}
use Rattle.pdcp_pdu.specs.Reading.{user_at}
use Rattle.pdcp_rx.specs.declared.got.Cause.{Cause}
use Rattle.pdcp_rx.specs.declared.got.Cause.TheVariants.{Arrived, Reestablished}
use Rattle.pdcp_rx.specs.declared.got.Got.{Got}
use Rattle.pdcp_rx.specs.declared.got.Got.TheVariants as got_as
use Rattle.pdcp_rx.specs.State.{got}
use Rattle.pdcp_tx.specs.declared.Next.{Next}
use Rattle.pdcp_tx.specs.State.{State as Sending, Offer, offers, taking, is_overdue, after_late, ticked}
use Rattle.rlc_pdu.specs.declared.outcome.Expired.{Expired}
use Rattle.rlc_pdu.specs.declared.outcome.Expired.TheVariants.{Done, NotRunning}
use Rattle.rlc_pdu.specs.declared.outcome.Landed.{Landed}
use Rattle.rlc_pdu.specs.declared.outcome.Landed.TheVariants.{Kept, Repeat, Outside, Clash}
use Rattle.rlc_pdu.specs.declared.outcome.Taken.{Taken}
use Rattle.rlc_pdu.specs.declared.outcome.Taken.TheVariants.{Piece, Idle, Small, Shut, Held, Stopped}
use Rattle.rlc_pdu.specs.declared.outcome.Turned.{Turned}
use Rattle.rlc_pdu.specs.declared.fault.RlcRefusal.{RlcRefusal}
use Rattle.rlc_pdu.specs.Pdus.{UmdPdu}
use Rattle.rlc_pdu.specs.Reading.{umd_at}
use Rattle.rlc_um.specs.Receiver.{arrival, expiring, expired, landing, turning, all_joined}
use Rattle.rlc_um.specs.Sender.{is_hungry, taken as rlc_taken}
use Rattle.law_deliver.specs.UmFlow.Pair.{called}
use Rattle.law_deliver.proofs.UmFlow.Sending.{is_called}
use Rattle.um_losses.specs.declared.flow.Happening.{Happening}
use Rattle.um_losses.specs.declared.flow.Happening.TheVariants.{TimerExpired}
use Rattle.law_deliver.specs.UmGaps.Whats.{expiry_in, expiries}
use Rattle.law_deliver.proofs.UmGaps.Tracking.{out_expired, out_timed, out_of}

module _ (l : ℕ) where
  then_out : (xs ys : List Event) → expiries l (xs ++ ys) ≡ expiries l xs ++ expiries l ys
  then_out xs ys = flat_map-append (expiry_in l) xs ys

  none_out : (xs ys : List Event) → expiries l ys ≡ [] → expiries l (xs ++ ys) ≡ expiries l xs
  none_out xs ys e = then_out xs ys ∙ ap (λ (o : List Happening). expiries l xs ++ o) e ∙ append-nil (expiries l xs)

  -- ---- SDUs that PDCP hears

  ups_out : (lcid : ℕ) (sdus : List (List ℕ)) → expiries l (ups lcid sdus) ≡ []
  ups_out lcid [] = refl
  ups_out lcid (sdu ∷ sdus) = ups_out lcid sdus

  if_out : (b : Bool) (x : Event) → expiry_in l x ≡ [] → expiries l (if b then [] else x ∷ []) ≡ []
  if_out true x e = refl
  if_out false x e = ap (λ (o : List Happening). o ++ []) e

  got_out : (g : Got) (cause : Cause) (e : Ends) → expiries l (got_told g cause e) ≡ []
  got_out got_as.Up cause e = ups_out e.lcid e.rx.ready
  got_out got_as.Stored cause e = ups_out e.lcid e.rx.ready
  got_out got_as.Old cause e = refl
  got_out got_as.OutOfRange cause e = refl
  got_out (got_as.Integrity found wanted) cause e = refl
  got_out (got_as.Report fms bitmap) cause e = if_out (is_applied e cause fms) (events.Drop e.lcid lost.Report) refl
  got_out (got_as.Unreadable fault) cause e = refl

  heard_out : (pdu : List ℕ) (cause : Cause) (e : Ends) → expiries l (heard_told pdu cause e) ≡ []
  unfolding heard_told
  heard_out pdu cause e = got_out (got e.rx pdu cause) cause (with_arrived pdu cause e)

  all_out : (pdus : List (List ℕ)) (cause : Cause) (h : Hearing)
      → expiries l (hears_all pdus cause h).events ≡ expiries l h.events
  all_out [] cause h = refl
  all_out (pdu ∷ pdus) cause h = all_out pdus cause _
      ∙ none_out h.events (heard_told pdu cause h.pdcp) (heard_out pdu cause h.pdcp)

  -- ---- a PDU arrives

  turned_by : (stops starts : Bool) (lcid : ℕ)
      → expiries l ((if stops then events.Stop lcid Reorder ∷ [] else [])
      ++ (if starts then events.Start lcid Reorder ∷ [] else [])) ≡ []
  turned_by true true lcid = refl
  turned_by true false lcid = refl
  turned_by false true lcid = refl
  turned_by false false lcid = refl

  landed_out : (x : Landed) (lcid : ℕ) (t : Turned) → expiries l (landed_told lcid x t) ≡ []
  landed_out Kept lcid t = turned_by t.stopped t.started lcid
  landed_out Repeat lcid t = refl
  landed_out Outside lcid t = refl
  landed_out Clash lcid t = refl

  arrived_out : (r : Result UmdPdu RlcRefusal) (b : State) → expiries l (arrived_told r b) ≡ []
  arrived_out (Err fault) b = refl
  arrived_out (Ok pdu) b =
      all_out (arrival pdu b.rx).joined.ready Arrived
      (record { pdcp = b.pdcp; events = landed_told b.pdcp.lcid (landing pdu b.rx) (turning pdu b.rx) })
      ∙ landed_out (landing pdu b.rx) b.pdcp.lcid (turning pdu b.rx)

  -- ---- the timer expires

  here : (lcid : ℕ) → lcid ≡ l → (lcid == l) ≡ true
  here lcid q = grind (arith, nat_tests, q)

  again_out : (again : Bool) (lcid : ℕ) → lcid ≡ l → expiries l (expired_told lcid Reorder again) ≡ TimerExpired ∷ []
  again_out true lcid q = ap (λ (b : Bool). (if b then TimerExpired ∷ [] else []) ++ []) (here lcid q)
  again_out false lcid q = ap (λ (b : Bool). (if b then TimerExpired ∷ [] else []) ++ []) (here lcid q)

  expired_out : (x : Expired) (b : State) → b.pdcp.lcid ≡ l → expiries l (told_of (expiry_told x b)) ≡ out_expired x
  expired_out NotRunning b q = refl
  expired_out (Done again) b q =
      all_out (expired b.rx).joined.ready Arrived
      (record { pdcp = b.pdcp; events = expired_told b.pdcp.lcid Reorder again }) ∙ again_out again b.pdcp.lcid q

  clock_out : (clock : Clock) (b : State) → b.pdcp.lcid ≡ l
      → expiries l (told_of (clock_told clock b)) ≡ out_timed clock b.rx
  clock_out Poll b q = refl
  clock_out Reorder b q = expired_out (expiring b.rx) b q
  clock_out Prohibit b q = refl

  or_none : (o : Option (List Event)) → unwrap_or o [] ≡ told_of o
  or_none None = refl
  or_none (Some told) = refl

  timed_out : (now : Bool) (b : State) → b.pdcp.lcid ≡ l
      → expiries l (timed_told now b) ≡ (if now then out_timed Reorder b.rx else [])
  unfolding um_expiry
  timed_out true b q = clock_out Reorder b q
  timed_out false b q = refl

  -- ---- SDUs are discarded

  late_by : (b : Bool) (lcid len : ℕ) (more : List Event) → expiries l more ≡ []
      → expiries l (if b then events.Discard lcid len ∷ more else []) ≡ []
  late_by true lcid len more e = e
  late_by false lcid len more e = refl

  late_out : (lcid : ℕ) (ws : List Waiting) (s : Sending) → expiries l (late_told lcid ws s) ≡ []
  late_out lcid [] s = refl
  late_out lcid (w ∷ ws) s =
      late_by (is_overdue s) lcid (length w.sdu) (late_told lcid ws (after_late s)) (late_out lcid ws (after_late s))

  tick_out : (e : Ends) → expiries l (tick_told e) ≡ []
  unfolding tick_told
  tick_out e = late_out e.lcid e.tx.waiting (ticked e.tx)

  -- ---- a PDU is taken

  report_out : (lcid : ℕ) (r : Result UserPdu PdcpRefusal) → expiries l (report_told lcid r) ≡ []
  report_out lcid (Err refusal) = refl
  report_out lcid (Ok (Sdu sn octets)) = refl
  report_out lcid (Ok (Report fms bitmap)) = refl

  own_report_out : (lcid : ℕ) (kind : PdcpKind) (pdu : List ℕ) → expiries l (own_report_told lcid kind pdu) ≡ []
  own_report_out lcid kinds.Srb pdu = refl
  own_report_out lcid (kinds.Um bits) pdu = report_out lcid (user_at bits pdu)
  own_report_out lcid (kinds.Am bits) pdu = report_out lcid (user_at bits pdu)

  count_out : (lcid : ℕ) (kind : PdcpKind) (count : Option ℕ) (len : ℕ) (pdu : List ℕ)
      → expiries l (taken_told lcid kind count len pdu) ≡ []
  count_out lcid kind (Some n) len pdu = refl
  count_out lcid kind None len pdu = own_report_out lcid kind pdu

  next_out : (lcid : ℕ) (kind : PdcpKind) (n : Option Next) → expiries l (next_told lcid kind n) ≡ []
  next_out lcid kind None = refl
  next_out lcid kind (Some n) = count_out lcid kind n.count n.len n.octets

  taking_out : (e : Ends) → expiries l (taking_told e) ≡ []
  unfolding taking_told
  taking_out e = next_out e.lcid e.kind (taking e.tx)

  feeds_by : (b : Bool) (os : List Offer) (size : ℕ) (held : Option ℕ) (f : Feeding)
      → ((g : Feeding) → expiries l g.events ≡ [] → expiries l (feeds os size held g).events ≡ [])
      → expiries l f.events ≡ []
      → expiries l (if b then feeds os size held (fed f) else f).events ≡ []
  feeds_by true os size held f rest e = rest (fed f) (none_out f.events (taking_told f.pdcp) (taking_out f.pdcp) ∙ e)
  feeds_by false os size held f rest e = e

  feeds_out : (os : List Offer) (size : ℕ) (held : Option ℕ) (f : Feeding) → expiries l f.events ≡ []
      → expiries l (feeds os size held f).events ≡ []
  feeds_out [] size held f e = e
  feeds_out (o ∷ os) size held f e =
      feeds_by (is_hungry f.tx size held) os size held f (λ g h. feeds_out os size held g h) e

  idle_out : (b : Bool) (lcid : ℕ) (why : Waits) → expiries l (idle_told lcid b why) ≡ []
  idle_out true lcid why = refl
  idle_out false lcid why = refl

  data_out : (t : Taken) (lcid bits : ℕ) (more : Bool) (why : Waits) → expiries l (data_told lcid bits more why t) ≡ []
  data_out (Piece number first polled octets) lcid bits more why = refl
  data_out Idle lcid bits more why = idle_out more lcid why
  data_out Small lcid bits more why = refl
  data_out Shut lcid bits more why = refl
  data_out Held lcid bits more why = refl
  data_out Stopped lcid bits more why = refl

  take_out : (b : State) (share : ℕ) (held : Option ℕ) → expiries l (told l (Um b) share held) ≡ []
  unfolding told um_taking
  take_out b share held =
      let f : Feeding = feeding b share held in
      let more = data_told f.pdcp.lcid b.bits (has_more f.pdcp) (why_idle f.tx held)
      (rlc_taken f.tx (size_in share) held) in
      none_out f.events more
      (data_out (rlc_taken f.tx (size_in share) held) f.pdcp.lcid b.bits (has_more f.pdcp) (why_idle f.tx held))
      ∙ feeds_out (offers b.pdcp.tx) (size_in share) held (record { pdcp = b.pdcp; tx = b.tx; events = [] }) refl

  -- ---- any call

  call_out : (b : State) (c : Call) → b.pdcp.lcid ≡ l → expiries l (tells_in l (Um b) c) ≡ out_of b c
  unfolding arriving um_arriving expiry um_expiry ticking um_ticking
  call_out b (Submit sdu) q = refl
  call_out b (Take share held) q = take_out b share held
  call_out b (Arrive pdu) q = arrived_out (umd_at b.bits pdu) b
  call_out b (Expire clock) q = ap (expiries l) (or_none (clock_told clock b)) ∙ clock_out clock b q
  call_out b Tick q =
      none_out (timed_told (ends b.rx.clock) (counted_down b))
      (tick_told (timed_left (ends b.rx.clock) (counted_down b)).pdcp)
      (tick_out (timed_left (ends b.rx.clock) (counted_down b)).pdcp)
      ∙ timed_out (ends b.rx.clock) (counted_down b) q
  call_out b (SetDiscard ttis) q = refl

  abbrev pub outs : State → List Call → List Happening
  outs b [] = []
  outs b (c ∷ cs) = out_of b c ++ outs (called b c) cs

  between_called : (b : State) (c : Call) → IsBetween l (Um b) → IsBetween l (Um (called b c))
  between_called b c k = subst (IsBetween l) (is_called b c) (between_after l (Um b) c k)

  calls_out : (b : State) (cs : List Call) → IsBetween l (Um b) → expiries l (tells_over l (Um b) cs) ≡ outs b cs
  calls_out b [] k = refl
  calls_out b (c ∷ cs) k =
      then_out (tells_in l (Um b) c) (tells_over l (after_call (Um b) c) cs)
      ∙ ap (λ (o : List Happening). o ++ expiries l (tells_over l (after_call (Um b) c) cs)) (call_out b c k.own)
      ∙ ap (λ (f : Bearer). out_of b c ++ expiries l (tells_over l f cs)) (is_called b c)
      ∙ ap (λ (o : List Happening). out_of b c ++ o) (calls_out (called b c) cs (between_called b c k))

  -- of what an end tells, just what is told of the channel
  event_on : (b : Bool) (x : Event) (xs : List Event) → is_on l x ≡ b
      → expiries l (cond b (x ∷ xs) xs) ≡ expiry_in l x ++ expiries l xs
  event_on true x xs e = refl
  event_on false x xs e = ap (λ (o : List Happening). o ++ expiries l xs) (sym (off x e))
    where
      off_by : (b : Bool) (w : List Happening) → b ≡ false → (if b then w else []) ≡ []
      off_by true w e = absurd cc
      off_by false w e = refl

      off : (x : Event) → is_on l x ≡ false → expiry_in l x ≡ []
      off (events.Take lcid count len) e = refl
      off (events.Report lcid fms bitmap) e = refl
      off (events.Send lcid how sn) e = refl
      off (events.Wait lcid why) e = refl
      off (events.Start lcid clock) e = refl
      off (events.Stop lcid clock) e = refl
      off (events.Expired lcid clock) e = off_by (lcid == l) _ e
      off (events.Up lcid sdu) e = refl
      off (events.Fail lcid sn) e = refl
      off (events.Drop lcid why) e = refl
      off (events.Integrity lcid found wanted) e = refl
      off (events.BadMac fault) e = refl
      off (events.BadRlc lcid fault) e = refl
      off (events.BadPdcp lcid fault) e = refl
      off (events.Discard lcid len) e = refl

  on_out : (told' : List Event) → expiries l (told_on l told') ≡ expiries l told'
  on_out [] = refl
  on_out (x ∷ xs) = event_on (is_on l x) x (told_on l xs) refl
      ∙ ap (λ (o : List Happening). expiry_in l x ++ o) (on_out xs)

  pub told_out : (told' : List Event) (b : State) (cs : List Call) → IsBetween l (Um b)
      → told_on l told' ≡ tells_over l (Um b) cs → expiries l told' ≡ outs b cs
  told_out told' b cs k e = sym (on_out told') ∙ ap (expiries l) e ∙ calls_out b cs k

  -- ---- as a life ends none expires

  end_out : (b : State) → expiries l (stopping (Um b)) ≡ []
  unfolding stopping um_stopping
  end_out b = all_out (all_joined b.rx) Reestablished (record { pdcp = b.pdcp; events = [] })

  pub none_ends : (told' : List Event) (b : State) → told_on l told' ≡ stopping (Um b) → expiries l told' ≡ []
  none_ends told' b e = sym (on_out told') ∙ ap (expiries l) e ∙ end_out b
