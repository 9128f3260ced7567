-- What a bearer tells that isn't acknowledged, or is of another channel: nothing that only the acknowledged bearer of
-- a channel tells of it, that its sender gives up or ignores a STATUS.
use Rattle.std.proofs.Common.{◌≡◌, ℕ, ◌==◌, Bool, true, false, cond, if◌then◌else◌, Option, Some, None, IfSome}
use Rattle.std.proofs.Common.{unwrap_or, Result, Ok, Err, List, [], ◌∷◌, ◌++◌, length, refl, ap, sym, ◌∙◌}
use Rattle.std.specs.List.{AllByRecursion}
use Rattle.bearer.specs.declared.flow.Flow.{Flow}
use Rattle.bearer.specs.declared.flow.Flow.TheVariants.{Tm, Um, Am}
use Rattle.bearer.specs.Bearer.{flow_of}
use Rattle.bearer.specs.Hearing.{arriving, ticking, expiry}
use Rattle.bearer.specs.Lives.{stopping}
use Rattle.bearer.specs.Unacknowledged.Hearing.{Hearing, hears, hears_all, up_told, counted_down, timed_told}
use Rattle.bearer.specs.Unacknowledged.Hearing.{timed_left, arrived_told, expiry_told, clock_told, told_of}
use Rattle.bearer.specs.Unacknowledged.Hearing.{arriving as um_arriving, expiry as um_expiry, ticking as um_ticking}
use Rattle.bearer.specs.Unacknowledged.Lives.{stopping as um_stopping}
use Rattle.bearer.specs.Unacknowledged.State.{State}
use Rattle.bearer_pdcp.specs.Discarding.{late_told, tick_told}
use Rattle.bearer_pdcp.specs.Ends.{Ends}
use Rattle.bearer_pdcp.specs.Hearing.{is_applied, ups, got_told, with_arrived, heard_told}
use Rattle.bearer_pdcp.specs.Telling.{turned_told, landed_told, expired_told}
use Rattle.bearer_types.specs.declared.config.BearerConfig.{BearerConfig}
use Rattle.bearer_types.specs.declared.event.Event.{Event}
use Rattle.bearer_types.specs.declared.event.Event.TheVariants as events
use Rattle.eps_sec.specs.declared.Keys.{Keys}
use Rattle.l2_num.specs.Timers.{ends}
use Rattle.l2_types.specs.declared.channel.Kind.{Kind}
use Rattle.l2_types.specs.declared.channel.Kind.TheVariants as kinds
use Rattle.l2_types.specs.declared.event.Clock.{Clock}
use Rattle.l2_types.specs.declared.event.Clock.TheVariants.{Poll, Reorder, Prohibit}
use Rattle.l2_types.specs.declared.event.Lost.TheVariants as lost
use Rattle.l2_types.specs.declared.side.Side.{Side}
use Rattle.pdcp_rx.specs.declared.Cause.{Cause}
use Rattle.pdcp_rx.specs.declared.Cause.TheVariants.{Arrived, Reestablished}
use Rattle.pdcp_rx.specs.declared.Got.{Got}
use Rattle.pdcp_rx.specs.declared.Got.TheVariants as got_as
use Rattle.pdcp_rx.specs.State.{got}
use Rattle.pdcp_tx.specs.State.{State as Sending, is_overdue, after_late, ticked}
use Rattle.pdcp_tx_store.specs.Waiting.{Waits}
use Rattle.rlc_pdu.specs.declared.fault.RlcRefusal.{RlcRefusal}
use Rattle.rlc_pdu.specs.declared.fault.RlcWhy.TheVariants.{Short}
use Rattle.rlc_pdu.specs.declared.outcome.Expired.{Expired}
use Rattle.rlc_pdu.specs.declared.outcome.Expired.TheVariants.{Done, NotRunning}
use Rattle.rlc_pdu.specs.declared.outcome.Landed.{Landed}
use Rattle.rlc_pdu.specs.declared.outcome.Landed.TheVariants.{Kept, Repeat, Outside, Clash}
use Rattle.rlc_pdu.specs.declared.outcome.Turned.{Turned}
use Rattle.rlc_pdu.specs.Pdus.{UmdPdu}
use Rattle.rlc_pdu.specs.Reading.{umd_at}
use Rattle.rlc_um.specs.Receiver.{State as Receiver, landing, turning, arrival, expiring, expired, all_joined}
use Rattle.journal_flows.specs.Accounts.{is_acked_kind}
use Rattle.promises.specs.Events.{is_on, told_on}
use Rattle.promises.specs.Names.{Mode, Transparent, Unacknowledged, Acknowledged}
use Rattle.law_bearer.specs.AnyBearer.Calls.{Call, Submit, Take, Arrive, Expire, Tick, SetDiscard, Step, Calls, Restart}
use Rattle.law_bearer.specs.AnyBearer.Calls.{after, goes}
use Rattle.law_bearer.proofs.AnyBearer.Between.{IsBetween, begins, submits, discards, takes, arrives, expires, ticks_of}
use Rattle.law_bearer.proofs.AnyBearer.Between.{moves}
use Rattle.law_node.specs.Names.{mode}
use Rattle.law_deliver.specs.AmFlow.Ups.{tells_in}
use Rattle.law_deliver.proofs.AmFlow.Events.{other_told, none_on, stopping_on}
use Rattle.law_deliver.proofs.AmFlow.Places.{other_lcid}
use Rattle.law_run.proofs.Modes.{keeps_mode}

-- ---- an acknowledged bearer, and what only one tells

abbrev pub is_acked_mode : Mode → Bool
is_acked_mode Transparent = false
is_acked_mode (Unacknowledged bits kind) = false
is_acked_mode (Acknowledged kind) = true

-- of a channel
abbrev pub is_acked_event : ℕ → Event → Bool
is_acked_event l (events.Fail lcid sn) = lcid == l
is_acked_event l (events.Drop lcid lost.Ignored) = lcid == l
is_acked_event l event = false

-- a bearer of some channel between calls, which is of another channel where it is acknowledged
pub record IsStill (l m : ℕ) (f : Flow) : Type 0 where
  pub between : IsBetween m f
  pub apart : is_acked_mode (mode f) ≡ true → (m == l) ≡ false

-- ---- it stays so

pub still_step : (l m : ℕ) (f : Flow) (x : Step) → IsBetween m (goes f x) → IsStill l m f → IsStill l m (goes f x)
still_step l m f x b k =
    record { between = b; apart = λ e. k.apart (sym (ap is_acked_mode (keeps_mode (x ∷ []) f)) ∙ e) }

pub still_call : (l m : ℕ) (f : Flow) (c : Call) → IsStill l m f → IsStill l m (after f c)
still_call l m f (Submit sdu) k = still_step l m f (Calls (Submit sdu)) (submits m f sdu k.between) k
still_call l m f (Take share held) k = still_step l m f (Calls (Take share held)) (takes m f share held k.between) k
still_call l m f (Arrive pdu) k = still_step l m f (Calls (Arrive pdu)) (arrives m f pdu k.between) k
still_call l m f (Expire clock) k = still_step l m f (Calls (Expire clock)) (expires m f clock k.between) k
still_call l m f Tick k = still_step l m f (Calls Tick) (ticks_of m f k.between) k
still_call l m f (SetDiscard ttis) k = still_step l m f (Calls (SetDiscard ttis)) (discards m f ttis k.between) k

pub still_move : (l m : ℕ) (f : Flow) (keys : Keys) → IsStill l m f → IsStill l m (goes f (Restart keys))
still_move l m f keys k = still_step l m f (Restart keys) (moves m f keys k.between) k

-- as it begins
apart_by : (b : Bool) → (b ≡ true → true ≡ false) → b ≡ false
apart_by true h = h refl
apart_by false h = refl

begins_apart : (kind : Kind) (l : ℕ) (c : BearerConfig) (keys : Keys) (side : Side)
    → ((c.channel.lcid == l) ≡ true → is_acked_kind kind ≡ false)
    → is_acked_mode (mode (flow_of kind c keys side)) ≡ true → (c.channel.lcid == l) ≡ false
begins_apart kinds.Tm l c keys side h e = let no : false ≡ true = e in absurd cc
begins_apart kinds.Srb l c keys side h e = apart_by (c.channel.lcid == l) h
begins_apart kinds.Um l c keys side h e = let no : false ≡ true = e in absurd cc
begins_apart kinds.Am l c keys side h e = apart_by (c.channel.lcid == l) h

pub begins_still : (l : ℕ) (c : BearerConfig) (keys : Keys) (side : Side)
    → ((c.channel.lcid == l) ≡ true → is_acked_kind c.kind ≡ false)
    → IsStill l c.channel.lcid (flow_of c.kind c keys side)
begins_still l c keys side h =
    record { between = begins c.kind c keys side; apart = begins_apart c.kind l c keys side h }

-- ---- what it tells, where no block is built

module _ (l : ℕ) where
  abbrev pub AreUnacked : List Event → Type 0
  AreUnacked es = AllByRecursion (λ event. is_acked_event l event ≡ false) es

  pub both_unacked : (a b : List Event) → AreUnacked a → AreUnacked b → AreUnacked (a ++ b)
  both_unacked [] b p q = q
  both_unacked (event ∷ a) b p q = (p.0, both_unacked a b p.1 q)

  if_unacked : (b : Bool) (a : List Event) → AreUnacked a → AreUnacked (if b then a else [])
  if_unacked true a p = p
  if_unacked false a p = tt

  unless_unacked : (b : Bool) (a : List Event) → AreUnacked a → AreUnacked (if b then [] else a)
  unless_unacked true a p = tt
  unless_unacked false a p = p

  some_unacked : (o : Option (List Event)) → IfSome o AreUnacked → AreUnacked (unwrap_or o [])
  some_unacked None p = tt
  some_unacked (Some es) p = p

  -- an acknowledged bearer of another channel tells nothing of this one

  off_event : (event : Event) → is_on l event ≡ false → is_acked_event l event ≡ false
  off_event (events.Fail lcid sn) e = e
  off_event (events.Drop lcid lost.Ignored) e = e
  off_event event e = refl

  off_by : (b : Bool) (event : Event) (es : List Event) → is_on l event ≡ b
      → cond b (event ∷ told_on l es) (told_on l es) ≡ [] → (told_on l es ≡ [] → AreUnacked es)
      → AreUnacked (event ∷ es)
  off_by true event es is none rest = absurd cc
  off_by false event es is none rest = (off_event event is, rest none)

  off : (es : List Event) → told_on l es ≡ [] → AreUnacked es
  off [] none = tt
  off (event ∷ es) none = off_by (is_on l event) event es refl none (off es)

  other_unacked : (m : ℕ) (f : Flow) (c : Call) → (m == l) ≡ false → IsBetween m f → AreUnacked (tells_in m f c)
  other_unacked m f c apart between = off (tells_in m f c) (other_told l m f c (other_lcid m l apart) between)

  -- RLC and PDCP of an unacknowledged one

  turned_unacked : (lcid : ℕ) (t : Turned) → AreUnacked (turned_told lcid t)
  turned_unacked lcid t =
      both_unacked (if t.stopped then events.Stop lcid Reorder ∷ [] else [])
      (if t.started then events.Start lcid Reorder ∷ [] else [])
      (if_unacked t.stopped (events.Stop lcid Reorder ∷ []) (refl, tt))
      (if_unacked t.started (events.Start lcid Reorder ∷ []) (refl, tt))

  landed_unacked : (lcid : ℕ) (landed : Landed) (t : Turned) → AreUnacked (landed_told lcid landed t)
  landed_unacked lcid Kept t = turned_unacked lcid t
  landed_unacked lcid Repeat t = (refl, tt)
  landed_unacked lcid Outside t = (refl, tt)
  landed_unacked lcid Clash t = (refl, tt)

  ups_unacked : (lcid : ℕ) (sdus : List (List ℕ)) → AreUnacked (ups lcid sdus)
  ups_unacked lcid [] = tt
  ups_unacked lcid (sdu ∷ sdus) = (refl, ups_unacked lcid sdus)

  got_unacked : (g : Got) (cause : Cause) (e : Ends) → AreUnacked (got_told g cause e)
  got_unacked got_as.Up cause e = ups_unacked e.lcid e.rx.ready
  got_unacked got_as.Stored cause e = ups_unacked e.lcid e.rx.ready
  got_unacked got_as.Old cause e = (refl, tt)
  got_unacked got_as.OutOfRange cause e = (refl, tt)
  got_unacked (got_as.Integrity found wanted) cause e = (refl, tt)
  got_unacked (got_as.Report fms bitmap) cause e =
      unless_unacked (is_applied e cause fms) (events.Drop e.lcid lost.Report ∷ []) (refl, tt)
  got_unacked (got_as.Unreadable fault) cause e = (refl, tt)

  heard_unacked : (pdu : List ℕ) (cause : Cause) (e : Ends) → AreUnacked (heard_told pdu cause e)
  unfolding heard_told
  heard_unacked pdu cause e = got_unacked (got e.rx pdu cause) cause (with_arrived pdu cause e)

  late_by : (b : Bool) (lcid len : ℕ) (later : List Event) → AreUnacked later
      → AreUnacked (if b then events.Discard lcid len ∷ later else [])
  late_by true lcid len later p = (refl, p)
  late_by false lcid len later p = tt

  late_unacked : (lcid : ℕ) (ws : List Waits) (s : Sending) → AreUnacked (late_told lcid ws s)
  late_unacked lcid [] s = tt
  late_unacked lcid (w ∷ ws) s =
      late_by (is_overdue s) lcid (length w.sdu) (late_told lcid ws (after_late s))
      (late_unacked lcid ws (after_late s))

  tick_unacked : (e : Ends) → AreUnacked (tick_told e)
  unfolding tick_told
  tick_unacked e = late_unacked e.lcid e.tx.waiting (ticked e.tx)

  hears_unacked : (sdus : List (List ℕ)) (cause : Cause) (h : Hearing) → AreUnacked h.events
      → AreUnacked (hears_all sdus cause h).events
  hears_unacked [] cause h p = p
  hears_unacked (sdu ∷ sdus) cause h p =
      hears_unacked sdus cause (hears sdu cause h)
      (both_unacked h.events (heard_told sdu cause h.pdcp) p (heard_unacked sdu cause h.pdcp))

  up_unacked : (r : Receiver) (es : List Event) (s : State) → AreUnacked es → AreUnacked (up_told r es s)
  up_unacked r es s p = hears_unacked r.joined.ready Arrived (record { pdcp = s.pdcp; events = es }) p

  arrived_unacked : (r : Result UmdPdu RlcRefusal) (s : State) → AreUnacked (arrived_told r s)
  arrived_unacked (Err fault) s = (refl, tt)
  arrived_unacked (Ok pdu) s =
      up_unacked (arrival pdu s.rx) (landed_told s.pdcp.lcid (landing pdu s.rx) (turning pdu s.rx)) s
      (landed_unacked s.pdcp.lcid (landing pdu s.rx) (turning pdu s.rx))

  reorder_unacked : (x : Expired) (s : State) → IfSome (expiry_told x s) AreUnacked
  reorder_unacked NotRunning s = tt
  reorder_unacked (Done again) s =
      up_unacked (expired s.rx) (expired_told s.pdcp.lcid Reorder again) s
      (refl, if_unacked again (events.Start s.pdcp.lcid Reorder ∷ []) (refl, tt))

  clock_unacked : (clock : Clock) (s : State) → IfSome (clock_told clock s) AreUnacked
  clock_unacked Poll s = tt
  clock_unacked Reorder s = reorder_unacked (expiring s.rx) s
  clock_unacked Prohibit s = tt

  um_expiry_unacked : (s : State) (clock : Clock) → IfSome (um_expiry s clock) AreUnacked
  unfolding um_expiry
  um_expiry_unacked s clock = clock_unacked clock s

  told_unacked : (o : Option (List Event)) → IfSome o AreUnacked → AreUnacked (told_of o)
  told_unacked None p = tt
  told_unacked (Some es) p = p

  um_ticking_unacked : (s : State) → AreUnacked (um_ticking s)
  unfolding um_ticking
  um_ticking_unacked s =
      let c = counted_down s in
      let b = ends s.rx.clock in
      both_unacked (timed_told b c) (tick_told (timed_left b c).pdcp)
      (if_unacked b (told_of (um_expiry c Reorder))
      (told_unacked (um_expiry c Reorder) (um_expiry_unacked c Reorder))) (tick_unacked (timed_left b c).pdcp)

  -- a bearer of any kind

  one_unacked : (b : Bool) (x y : Event) → AreUnacked (x ∷ []) → AreUnacked (y ∷ [])
      → AreUnacked (if b then x ∷ [] else y ∷ [])
  one_unacked true x y p q = p
  one_unacked false x y p q = q

  pub arriving_unacked : (m : ℕ) (f : Flow) (pdu : List ℕ) → IsStill l m f → AreUnacked (arriving m f pdu)
  unfolding arriving um_arriving
  arriving_unacked m (Tm b) pdu k =
      one_unacked (length pdu == 0) (events.BadRlc m (record { at = 0; why = Short })) (events.Up m pdu) (refl, tt)
      (refl, tt)
  arriving_unacked m (Um b) pdu k = arrived_unacked (umd_at b.bits pdu) b
  arriving_unacked m (Am b) pdu k = other_unacked m (Am b) (Arrive pdu) (k.apart refl) k.between

  pub ticking_unacked : (m : ℕ) (f : Flow) → IsStill l m f → AreUnacked (ticking f)
  unfolding ticking
  ticking_unacked m (Tm b) k = tt
  ticking_unacked m (Um b) k = um_ticking_unacked b
  ticking_unacked m (Am b) k = other_unacked m (Am b) Tick (k.apart refl) k.between

  pub expiry_unacked : (m : ℕ) (f : Flow) (clock : Clock) → IsStill l m f
      → AreUnacked (unwrap_or (expiry f clock) [])
  unfolding expiry
  expiry_unacked m (Tm b) clock k = tt
  expiry_unacked m (Um b) clock k = some_unacked (um_expiry b clock) (um_expiry_unacked b clock)
  expiry_unacked m (Am b) clock k = other_unacked m (Am b) (Expire clock) (k.apart refl) k.between

  pub stopping_unacked : (m : ℕ) (f : Flow) → IsStill l m f → AreUnacked (stopping f)
  unfolding stopping um_stopping
  stopping_unacked m (Tm b) k = tt
  stopping_unacked m (Um b) k =
      hears_unacked (all_joined b.rx) Reestablished (record { pdcp = b.pdcp; events = [] }) tt
  stopping_unacked m (Am b) k =
      off (stopping (Am b))
      (none_on l m (stopping (Am b)) (other_lcid m l (k.apart refl)) (stopping_on m (Am b) k.between))
