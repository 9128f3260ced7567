-- What a bearer tells where no block is built: what holds of each such event holds of all that is told.
use Rattle.std.proofs.Common.{subst, ◌≡◌, ℕ, Bool, true, false, nat_lt, if◌then◌else◌, Option, Some, None, IfSome}
use Rattle.std.proofs.Common.{Result, Ok, Err, List, [], ◌∷◌, ◌++◌, length, map, refl, sym}
use Rattle.bearer.specs.declared.flow.Flow.{Flow}
use Rattle.bearer.specs.declared.flow.Flow.TheVariants.{Tm, Um, Am}
use Rattle.bearer.specs.Hearing.{ticking}
use Rattle.bearer.specs.Hearing.{expiry as flow_expiry}
use Rattle.bearer.specs.Lives.{stopping}
use Rattle.bearer.specs.Acknowledged.Hearing.{confirms, all_confirmed, started_told, settled_work, settled_if}
use Rattle.bearer.specs.Acknowledged.Hearing.{heard_work, hears as am_hears, hears_all as am_hears_all, stopped_told}
use Rattle.bearer.specs.Acknowledged.Hearing.{status_work, arrived_told as am_arrived_told}
use Rattle.bearer.specs.Acknowledged.Lives.{Ending, hears_last, ends_with, stopping as am_stopping}
use Rattle.bearer.specs.Acknowledged.State.{State as AmBearer, Work, work, has_more}
use Rattle.bearer.specs.Acknowledged.Timing.{poll_told, timer_told, clock_told as am_clock_told, expiry as am_expiry}
use Rattle.bearer.specs.Acknowledged.Timing.{Ticking, told_of as am_told_of, expires_if, ticks, counts, has_ended}
use Rattle.bearer.specs.Acknowledged.Timing.{discards, ticked as am_ticked}
use Rattle.bearer_pdcp.specs.Discarding.{late_told, tick_told}
use Rattle.bearer_pdcp.specs.Ends.{Ends}
use Rattle.bearer_pdcp.specs.Hearing.{is_applied, ups, got_told, with_arrived, heard_told, after_hearing, applies}
use Rattle.bearer_pdcp.specs.Telling.{turned_told, landed_told, expired_told}
use Rattle.bearer_types.specs.declared.event.Event.{Event}
use Rattle.bearer_types.specs.declared.event.Event.TheVariants as events
use Rattle.bearer.specs.Unacknowledged.Hearing.{Hearing, hears as um_hears, hears_all as um_hears_all, up_told}
use Rattle.bearer.specs.Unacknowledged.Hearing.{arrived_told as um_arrived_told}
use Rattle.bearer.specs.Unacknowledged.Hearing.{expiry_told as um_expiry_told, clock_told as um_clock_told}
use Rattle.bearer.specs.Unacknowledged.Hearing.{expiry as um_expiry, told_of as um_told_of, timed_told, timed_left}
use Rattle.bearer.specs.Unacknowledged.Hearing.{counted_down, ticking as um_ticking}
use Rattle.bearer.specs.Unacknowledged.Lives.{stopping as um_stopping}
use Rattle.bearer.specs.Unacknowledged.State.{State as UmBearer}
use Rattle.l2_num.specs.Timers.{ends}
use Rattle.l2_types.specs.declared.event.Clock.{Clock}
use Rattle.l2_types.specs.declared.event.Clock.TheVariants.{Poll, Reorder, Prohibit}
use Rattle.l2_types.specs.declared.event.Lost.TheVariants as lost
use Rattle.pdcp_tx_store.specs.Waiting.{Waits}
use Rattle.pdcp_pdu.specs.Kinds.{is_am}
use Rattle.pdcp_rx.specs.declared.Cause.{Cause}
use Rattle.pdcp_rx.specs.declared.Cause.TheVariants.{Arrived, Reestablished}
use Rattle.pdcp_rx.specs.declared.Got.{Got}
use Rattle.pdcp_rx.specs.declared.Got.TheVariants as got_as
use Rattle.pdcp_rx.specs.State.{got}
use Rattle.pdcp_tx.specs.State.{State as Sending, is_overdue, after_late, ticked as pdcp_ticked}
use Rattle.rlc_am_rx.specs.Machine.{reorder_answer, prohibit_answer, landed, turned, arrived, finished}
use Rattle.rlc_am_tx.specs.declared.answers.Heard.{Heard as HeardStatus}
use Rattle.rlc_am_tx.specs.declared.answers.Heard.TheVariants as heard_as
use Rattle.rlc_am_tx.specs.declared.answers.PollExpired.{PollExpired}
use Rattle.rlc_am_tx.specs.declared.answers.PollExpired.TheVariants as polls
use Rattle.rlc_am_tx.specs.Machine.{expiry as poll_expiry, settles, heard as heard_by_sender, after_status}
use Rattle.rlc_pdu.specs.declared.fault.RlcRefusal.{RlcRefusal}
use Rattle.rlc_pdu.specs.declared.outcome.Expired.{Expired}
use Rattle.rlc_pdu.specs.declared.outcome.Expired.TheVariants.{Done, NotRunning}
use Rattle.rlc_pdu.specs.declared.outcome.Landed.{Landed}
use Rattle.rlc_pdu.specs.declared.outcome.Landed.TheVariants.{Kept, Repeat, Outside, Clash}
use Rattle.rlc_pdu.specs.declared.outcome.Turned.{Turned}
use Rattle.rlc_pdu.specs.Pdus.{UmdPdu, AcknowledgedPdu, Payload, Status}
use Rattle.rlc_um.specs.Receiver.{State as UmReceiver, landing, turning, arrival, expiring, expired as um_expired}
use Rattle.rlc_um.specs.Receiver.{all_joined}
use Rattle.law_node.proofs.Owning.{heard_own}
use Rattle.std.specs.List.{AllByRecursion}
use Rattle.l2_types.specs.declared.event.Lost.{Lost}
use Rattle.pdcp_pdu.specs.declared.PdcpRefusal.{PdcpRefusal}
use Rattle.promises.specs.Events.{is_of_loop}

-- of each event that may be told, where an SDU that goes up is of some channels alone
pub record HoldsElsewhere (P : Event → Type 0) (IsFor : ℕ → Type 0) : Type 0 where
  pub starts : (lcid : ℕ) (clock : Clock) → P (events.Start lcid clock)
  pub stops : (lcid : ℕ) (clock : Clock) → P (events.Stop lcid clock)
  pub expires : (lcid : ℕ) (clock : Clock) → P (events.Expired lcid clock)
  pub ups : (lcid : ℕ) (sdu : List ℕ) → IsFor lcid → P (events.Up lcid sdu)
  pub fails : (lcid sn : ℕ) → P (events.Fail lcid sn)
  pub drops : (lcid : ℕ) (why : Lost) → is_of_loop (events.Drop lcid why) ≡ false → P (events.Drop lcid why)
  pub integrity : (lcid : ℕ) (found wanted : List ℕ) → P (events.Integrity lcid found wanted)
  pub bad_rlc : (lcid : ℕ) (fault : RlcRefusal) → P (events.BadRlc lcid fault)
  pub bad_pdcp : (lcid : ℕ) (fault : PdcpRefusal) → P (events.BadPdcp lcid fault)
  pub discards : (lcid len : ℕ) → P (events.Discard lcid len)

module _ {P : Event → Type 0} {IsFor : ℕ → Type 0} (told : HoldsElsewhere P IsFor) where
  abbrev AreAll : List Event → Type 0
  AreAll es = AllByRecursion P es

  all_both : (a b : List Event) → AreAll a → AreAll b → AreAll (a ++ b)
  all_both [] b p q = q
  all_both (event ∷ a) b p q = (p.0, all_both a b p.1 q)

  all_if : (b : Bool) (a : List Event) → AreAll a → AreAll (if b then a else [])
  all_if true a p = p
  all_if false a p = tt

  all_unless : (b : Bool) (a : List Event) → AreAll a → AreAll (if b then [] else a)
  all_unless true a p = tt
  all_unless false a p = p

  -- ---- what RLC and PDCP tell

  turned_all : (lcid : ℕ) (t : Turned) → AreAll (turned_told lcid t)
  turned_all lcid t =
      all_both (if t.stopped then events.Stop lcid Reorder ∷ [] else [])
      (if t.started then events.Start lcid Reorder ∷ [] else [])
      (all_if t.stopped (events.Stop lcid Reorder ∷ []) (told.stops lcid Reorder, tt))
      (all_if t.started (events.Start lcid Reorder ∷ []) (told.starts lcid Reorder, tt))

  landed_all : (lcid : ℕ) (landed' : Landed) (t : Turned) → AreAll (landed_told lcid landed' t)
  landed_all lcid Kept t = turned_all lcid t
  landed_all lcid Repeat t = (told.drops lcid lost.Repeat refl, tt)
  landed_all lcid Outside t = (told.drops lcid lost.Outside refl, tt)
  landed_all lcid Clash t = (told.drops lcid lost.Clash refl, tt)

  expired_all : (lcid : ℕ) (clock : Clock) (again : Bool) → AreAll (expired_told lcid clock again)
  expired_all lcid clock again =
      (told.expires lcid clock, all_if again (events.Start lcid clock ∷ []) (told.starts lcid clock, tt))

  ups_all : (lcid : ℕ) (sdus : List (List ℕ)) → IsFor lcid → AreAll (ups lcid sdus)
  ups_all lcid [] o = tt
  ups_all lcid (sdu' ∷ sdus) o = (told.ups lcid sdu' o, ups_all lcid sdus o)

  got_all : (g : Got) (cause : Cause) (e : Ends) → IsFor e.lcid → AreAll (got_told g cause e)
  got_all got_as.Up cause e o = ups_all e.lcid e.rx.ready o
  got_all got_as.Stored cause e o = ups_all e.lcid e.rx.ready o
  got_all got_as.Old cause e o = (told.drops e.lcid lost.Old refl, tt)
  got_all got_as.OutOfRange cause e o = (told.drops e.lcid lost.Range refl, tt)
  got_all (got_as.Integrity found wanted) cause e o = (told.integrity e.lcid found wanted, tt)
  got_all (got_as.Report fms bitmap) cause e o =
      all_unless (is_applied e cause fms) (events.Drop e.lcid lost.Report ∷ []) (told.drops e.lcid lost.Report refl, tt)
  got_all (got_as.Unreadable fault) cause e o = (told.bad_pdcp e.lcid fault, tt)

  heard_all : (pdu : List ℕ) (cause : Cause) (e : Ends) → IsFor e.lcid → AreAll (heard_told pdu cause e)
  unfolding heard_told
  heard_all pdu cause e o = got_all (got e.rx pdu cause) cause (with_arrived pdu cause e) o

  -- its PDCP stays that of its channel
  heard_for : (pdu : List ℕ) (cause : Cause) (e : Ends) → IsFor e.lcid → IsFor (after_hearing pdu cause e).lcid
  heard_for pdu cause e o = subst IsFor (sym (heard_own pdu cause e)) o

  late_if : (b : Bool) (lcid len : ℕ) (later : List Event) → AreAll later
      → AreAll (if b then events.Discard lcid len ∷ later else [])
  late_if true lcid len later p = (told.discards lcid len, p)
  late_if false lcid len later p = tt

  late_all : (lcid : ℕ) (ws : List Waits) (s : Sending) → AreAll (late_told lcid ws s)
  late_all lcid [] s = tt
  late_all lcid (w ∷ ws) s =
      late_if (is_overdue s) lcid (length w.sdu) (late_told lcid ws (after_late s)) (late_all lcid ws (after_late s))

  tick_all : (e : Ends) → AreAll (tick_told e)
  unfolding tick_told
  tick_all e = late_all e.lcid e.tx.waiting (pdcp_ticked e.tx)

  -- ---- an unacknowledged bearer

  um_all_all : (sdus : List (List ℕ)) (cause : Cause) (h : Hearing) → IsFor h.pdcp.lcid → AreAll h.events
      → AreAll (um_hears_all sdus cause h).events
  um_all_all [] cause h o p = p
  um_all_all (sdu' ∷ sdus) cause h o p =
      um_all_all sdus cause (um_hears sdu' cause h) (heard_for sdu' cause h.pdcp o)
      (all_both h.events (heard_told sdu' cause h.pdcp) p (heard_all sdu' cause h.pdcp o))

  up_all : (r : UmReceiver) (es : List Event) (s : UmBearer) → IsFor s.pdcp.lcid → AreAll es
      → AreAll (up_told r es s)
  up_all r es s o p = um_all_all r.joined.ready Arrived (record { pdcp = s.pdcp; events = es }) o p

  pub um_arrived_all : (r : Result UmdPdu RlcRefusal) (s : UmBearer) → IsFor s.pdcp.lcid → AreAll (um_arrived_told r s)
  um_arrived_all (Err fault) s o = (told.bad_rlc s.pdcp.lcid fault, tt)
  um_arrived_all (Ok pdu) s o =
      up_all (arrival pdu s.rx) (landed_told s.pdcp.lcid (landing pdu s.rx) (turning pdu s.rx)) s o
      (landed_all s.pdcp.lcid (landing pdu s.rx) (turning pdu s.rx))

  um_reorder_all : (x : Expired) (s : UmBearer) → IsFor s.pdcp.lcid → IfSome (um_expiry_told x s) AreAll
  um_reorder_all NotRunning s o = tt
  um_reorder_all (Done again) s o =
      up_all (um_expired s.rx) (expired_told s.pdcp.lcid Reorder again) s o (expired_all s.pdcp.lcid Reorder again)

  um_clock_all : (clock : Clock) (s : UmBearer) → IsFor s.pdcp.lcid → IfSome (um_clock_told clock s) AreAll
  um_clock_all Poll s o = tt
  um_clock_all Reorder s o = um_reorder_all (expiring s.rx) s o
  um_clock_all Prohibit s o = tt

  um_expiry_all : (s : UmBearer) (clock : Clock) → IsFor s.pdcp.lcid → IfSome (um_expiry s clock) AreAll
  unfolding um_expiry
  um_expiry_all s clock o = um_clock_all clock s o

  um_told_all : (r : Option (List Event)) → IfSome r AreAll → AreAll (um_told_of r)
  um_told_all None p = tt
  um_told_all (Some es) p = p

  um_ticking_all : (s : UmBearer) → IsFor s.pdcp.lcid → AreAll (um_ticking s)
  unfolding um_ticking
  um_ticking_all s o =
      let c = counted_down s in
      let b = ends s.rx.clock in
      all_both (timed_told b c) (tick_told (timed_left b c).pdcp)
      (all_if b (um_told_of (um_expiry c Reorder))
      (um_told_all (um_expiry c Reorder) (um_expiry_all c Reorder o))) (tick_all (timed_left b c).pdcp)

  -- ---- an acknowledged bearer

  settled_all : (w : Work) → AreAll w.events → AreAll (settled_work w).events
  settled_all w p =
      let starts = settles w.tx (has_more w.pdcp) in
      all_both w.events (started_told w.pdcp.lcid starts) p (all_if starts (events.Start w.pdcp.lcid Poll ∷ [])
      (told.starts w.pdcp.lcid Poll, tt))

  settled_if_all : (b : Bool) (w : Work) → AreAll w.events → AreAll (settled_if b w).events
  settled_if_all true w p = settled_all w p
  settled_if_all false w p = p

  settled_for : (b : Bool) (w : Work) → IsFor w.pdcp.lcid → IsFor (settled_if b w).pdcp.lcid
  settled_for true w o = o
  settled_for false w o = o

  am_all_all : (sdus : List (List ℕ)) (w : Work) → IsFor w.pdcp.lcid → AreAll w.events
      → AreAll (am_hears_all sdus w).events
  am_all_all [] w o p = p
  am_all_all (sdu' ∷ sdus) w o p =
      let b = applies sdu' Arrived w.pdcp in
      let v = heard_work sdu' w in
      am_all_all sdus (am_hears sdu' w) (settled_for b v (heard_for sdu' Arrived w.pdcp o))
      (settled_if_all b v (all_both w.events (heard_told sdu' Arrived w.pdcp) p (heard_all sdu' Arrived w.pdcp o)))

  status_all : (h : HeardStatus) (w : Work) → AreAll w.events → AreAll (status_work h w).events
  status_all heard_as.Ignored w p = all_both w.events (events.Drop w.pdcp.lcid lost.Ignored ∷ []) p
      (told.drops w.pdcp.lcid lost.Ignored refl, tt)
  status_all (heard_as.Limit sn) w p = all_both w.events (events.Fail w.pdcp.lcid sn ∷ []) p
      (told.fails w.pdcp.lcid sn, tt)
  status_all (heard_as.Applied stopped') w p =
      settled_all (record w { events = w.events ++ stopped_told w.pdcp.lcid stopped' })
      (all_both w.events (stopped_told w.pdcp.lcid stopped') p
      (all_if stopped' (events.Stop w.pdcp.lcid Poll ∷ []) (told.stops w.pdcp.lcid Poll, tt)))

  pub am_arrived_all : (r : Result AcknowledgedPdu RlcRefusal) (s : AmBearer) → IsFor s.pdcp.lcid
      → AreAll (am_arrived_told r s)
  am_arrived_all (Err fault) s o = (told.bad_rlc s.pdcp.lcid fault, tt)
  am_arrived_all (Ok (Payload p)) s o =
      let es = landed_told s.pdcp.lcid (landed s.rx p) (turned s.rx p) in
      am_all_all (arrived s.rx p).out.ready (work s.pdcp s.tx es) o
      (landed_all s.pdcp.lcid (landed s.rx p) (turned s.rx p))
  am_arrived_all (Ok (Status p)) s o =
      status_all (heard_by_sender s.tx p)
      (work (confirms (after_status s.tx p).accounts.news s.pdcp) (all_confirmed (after_status s.tx p)) []) tt

  poll_all : (lcid : ℕ) (x : PollExpired) → IfSome (poll_told lcid x) AreAll
  poll_all lcid polls.NotRunning = tt
  poll_all lcid polls.Done = (told.expires lcid Poll, tt)
  poll_all lcid (polls.Limit sn) = (told.expires lcid Poll, (told.fails lcid sn, tt))

  timer_all : (lcid : ℕ) (clock : Clock) (x : Expired) → IfSome (timer_told lcid clock x) AreAll
  timer_all lcid clock NotRunning = tt
  timer_all lcid clock (Done again) = expired_all lcid clock again

  am_clock_all : (clock : Clock) (s : AmBearer) → IfSome (am_clock_told clock s) AreAll
  am_clock_all Poll s = poll_all s.pdcp.lcid (poll_expiry s.tx (has_more s.pdcp))
  am_clock_all Reorder s = timer_all s.pdcp.lcid Reorder (reorder_answer s.rx.mark s.rx)
  am_clock_all Prohibit s = timer_all s.pdcp.lcid Prohibit (prohibit_answer s.rx)

  am_expiry_all : (s : AmBearer) (clock : Clock) → IfSome (am_expiry s clock) AreAll
  unfolding am_expiry
  am_expiry_all s clock = am_clock_all clock s

  am_told_all : (r : Option (List Event)) → IfSome r AreAll → AreAll (am_told_of r)
  am_told_all None p = tt
  am_told_all (Some es) p = p

  expires_if_all : (b : Bool) (clock : Clock) (t : Ticking) → AreAll t.events
      → AreAll (expires_if b clock t).events
  expires_if_all true clock t p =
      all_both t.events (am_told_of (am_expiry t.bearer clock)) p
      (am_told_all (am_expiry t.bearer clock) (am_expiry_all t.bearer clock))
  expires_if_all false clock t p = p

  ticks_all : (clock : Clock) (t : Ticking) → AreAll t.events → AreAll (ticks clock t).events
  ticks_all clock t p = expires_if_all (has_ended clock t.bearer) clock (record t { bearer = counts clock t.bearer }) p

  discards_all : (t : Ticking) → AreAll t.events → AreAll (discards t).events
  discards_all t p =
      let es = tick_told t.bearer.pdcp in
      settled_if_all (nat_lt 0 (length es)) _ (all_both t.events es p (tick_all t.bearer.pdcp))

  am_ticked_all : (s : AmBearer) → AreAll (am_ticked s).events
  unfolding am_ticked
  am_ticked_all s =
      let a : Ticking = record { bearer = s; events = [] } in
      let b = ticks Poll a in
      let c = ticks Reorder b in
      discards_all (ticks Prohibit c) (ticks_all Prohibit c (ticks_all Reorder b (ticks_all Poll a tt)))

  last_all : (sdus : List (List ℕ)) (e : Ending) → IsFor e.pdcp.lcid → AreAll e.events
      → AreAll (hears_last sdus e).events
  last_all [] e o p = p
  last_all (sdu' ∷ sdus) e o p =
      last_all sdus _ (heard_for sdu' Reestablished e.pdcp o)
      (all_both e.events (heard_told sdu' Reestablished e.pdcp) p (heard_all sdu' Reestablished e.pdcp o))

  drops_all : (lcid : ℕ) (sdus : List (List ℕ)) → AreAll (map (λ sdu'. events.Drop lcid lost.Handover) sdus)
  drops_all lcid [] = tt
  drops_all lcid (sdu' ∷ sdus) = (told.drops lcid lost.Handover refl, drops_all lcid sdus)

  ends_all : (b : Bool) (sdus : List (List ℕ)) (e : Ending) → IsFor e.pdcp.lcid → AreAll e.events
      → AreAll (ends_with b sdus e).events
  ends_all true sdus e o p = last_all sdus e o p
  ends_all false sdus e o p = all_both e.events _ p (drops_all e.pdcp.lcid sdus)

  -- ---- a bearer of any kind

  abbrev pub IsOfFlow : Flow → Type 0
  IsOfFlow (Tm b) = Unit {0}
  IsOfFlow (Um b) = IsFor b.pdcp.lcid
  IsOfFlow (Am b) = IsFor b.pdcp.lcid

  pub ticking_all : (f : Flow) → IsOfFlow f → AreAll (ticking f)
  unfolding ticking
  ticking_all (Tm b) o = tt
  ticking_all (Um b) o = um_ticking_all b o
  ticking_all (Am b) o = am_ticked_all b

  pub expiry_all : (f : Flow) (clock : Clock) → IsOfFlow f → IfSome (flow_expiry f clock) AreAll
  unfolding flow_expiry
  expiry_all (Tm b) clock o = tt
  expiry_all (Um b) clock o = um_expiry_all b clock o
  expiry_all (Am b) clock o = am_expiry_all b clock

  pub stopping_all : (f : Flow) → IsOfFlow f → AreAll (stopping f)
  unfolding stopping um_stopping am_stopping
  stopping_all (Tm b) o = tt
  stopping_all (Um b) o = um_all_all (all_joined b.rx) Reestablished (record { pdcp = b.pdcp; events = [] }) o tt
  stopping_all (Am b) o = ends_all (is_am b.pdcp.kind) (finished b.rx) (record { pdcp = b.pdcp; events = [] }) o tt
