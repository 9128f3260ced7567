-- Records behind a block that has come leave the flow that the side which hears it sends.
use Rattle.std.proofs.Common.{◌≡◌, ℕ, not, if◌then◌else◌, Bool, true, false, List, [], ◌∷◌, ◌++◌, Option}
use Rattle.std.proofs.Common.{Some, None, Result, Ok, Err, slice_index_or, refl, ap, sym, subst, ◌∙◌}
use Rattle.std.specs.List.{AllByRecursion}
use Rattle.air_record.specs.declared.record.Arrived.TheVariants.{Got}
use Rattle.air_record.specs.declared.record.Record.{Record}
use Rattle.air_record.specs.declared.record.Record.TheVariants as records
use Rattle.air_text.specs.Groups.{Group}
use Rattle.bearer.specs.Acknowledged.Hearing.{arriving as am_arriving, after_arrival, arrived_told, started_told}
use Rattle.bearer.specs.Acknowledged.Hearing.{stopped_told, settled_if, heard_work, hears, hears_all, status_work}
use Rattle.bearer.specs.Acknowledged.Hearing.{confirms, all_confirmed}
use Rattle.bearer.specs.Acknowledged.State.{State, has_more, Work, work}
use Rattle.bearer.specs.declared.flow.Flow.TheVariants.{Am}
use Rattle.bearer.specs.Hearing.{arriving, arrived as flow_arrived}
use Rattle.bearer_pdcp.specs.Hearing.{heard_told, applies}
use Rattle.bearer_pdcp.specs.Telling.{landed_told}
use Rattle.bearer_types.specs.declared.event.Event.{Event}
use Rattle.bearer_types.specs.declared.event.Event.TheVariants as events
use Rattle.bearer_types.specs.Sides.{other}
use Rattle.l2_types.specs.declared.event.Clock.TheVariants.{Poll, Reorder, Prohibit}
use Rattle.l2_types.specs.declared.side.Side.{Side}
use Rattle.l2_types.specs.declared.side.Side.TheVariants.{Nb, Ue}
use Rattle.mac_pdu.specs.declared.item.Direction.TheVariants as directions
use Rattle.pdcp_rx.specs.declared.Cause.TheVariants.{Arrived}
use Rattle.pdu_show.specs.declared.kinds.Layout.{Layout}
use Rattle.pdu_show.specs.declared.kinds.Layout.TheVariants as layouts
use Rattle.prioritise.proofs.ChannelLemmas.{both_false}
use Rattle.promises.specs.Events.{is_of_loop, is_on, told_on}
use Rattle.promises.specs.Records.{event_of, events_of}
use Rattle.rlc_am_rx.specs.Machine.{arrived, landed, turned}
use Rattle.rlc_am_tx.specs.declared.answers.Heard.{Heard}
use Rattle.rlc_am_tx.specs.declared.answers.Heard.TheVariants as heard_as
use Rattle.rlc_am_tx.specs.Machine.{settles as starts, heard, after_status}
use Rattle.rlc_pdu.specs.declared.fault.RlcRefusal.{RlcRefusal}
use Rattle.rlc_pdu.specs.Pdus.{AcknowledgedPdu, Payload, Status}
use Rattle.rlc_pdu.specs.Reading.{am_at}
use Rattle.journal_account.specs.FlowEvents.{FlowEvent, ReorderStarted, ReorderExpired}
use Rattle.journal_flows.specs.FlowsTold.{Histories, histories}
use Rattle.journal_flows.specs.Gathering.{Journal, MayTake, all_told, reorder_as, told_by, behind_record}
use Rattle.journal_flows.specs.Gathering.{behind_records}
use Rattle.journal_um.specs.UmEvents.{UmEvent}
use Rattle.journal_um.specs.UmEvents as um
use Rattle.law_bearer.specs.AnyBearer.Rounds.{arrivals}
use Rattle.law_bearer.proofs.AnyBearer.SenderCalls.{all_then}
use Rattle.law_deliver.specs.AmFlow.Ups.{tells_over}
use Rattle.law_deliver.proofs.AmFlow.Events.{told_then}
use Rattle.law_run.specs.TwoEnds.SenderLog.{is_of_flow}
use Rattle.law_run.proofs.Still.{tell_flow, heard_still, landed_still}
use Rattle.law_sound.proofs.OtherRecords.{flows_behind}
use Rattle.law_sound.proofs.ReorderGathering.{all_elsewhere, event_elsewhere}

-- ---- events and records

-- nothing is told of the flow that the side sends on the channel
abbrev pub TellsOfNoTaking : ℕ → Event → Type 0
TellsOfNoTaking l (events.Take lcid count len) = is_on l (events.Take lcid count len) ≡ true → ⊥
TellsOfNoTaking l (events.Report lcid fms bitmap) = is_on l (events.Report lcid fms bitmap) ≡ true → ⊥
TellsOfNoTaking l (events.Expired lcid Poll) = is_on l (events.Expired lcid Poll) ≡ true → ⊥
TellsOfNoTaking l event = Unit {0}

abbrev pub LeavesTaking : ℕ → Record → Type 0
LeavesTaking l (records.Of side event) = TellsOfNoTaking l event
LeavesTaking l (records.Block direction process true rv octets) = ⊥
LeavesTaking l (records.Air direction Got heard) = ⊥
LeavesTaking l one = Unit {0}

-- t-Reordering is told of the flow that the side hears
reorder_leaves : (side : Side) (x : Option Layout) (l lcid : ℕ) (e : FlowEvent) (u : UmEvent) (h : Histories)
    → (all_told histories (reorder_as x (other side) lcid e u) h).acked side l ≡ h.acked side l
reorder_leaves Nb (Some (layouts.Um rlc_bits kind)) l lcid e u h = refl
reorder_leaves Nb (Some (layouts.Am kind)) l lcid e u h = refl
reorder_leaves Nb (Some layouts.Tm) l lcid e u h = refl
reorder_leaves Nb None l lcid e u h = refl
reorder_leaves Ue (Some (layouts.Um rlc_bits kind)) l lcid e u h = refl
reorder_leaves Ue (Some (layouts.Am kind)) l lcid e u h = refl
reorder_leaves Ue (Some layouts.Tm) l lcid e u h = refl
reorder_leaves Ue None l lcid e u h = refl

-- an event on the channel is told there, so where the other side tells none it is of the side
is_told : (l : ℕ) (e : Event) → is_on l e ≡ true → is_of_loop e ≡ false
    → told_on l (if not (is_of_loop e) then e ∷ [] else []) ≡ [] → ⊥
is_told l e here plain silent =
    let no : e ∷ [] ≡ [] =
    sym (ap (λ (b : Bool). told_on l (if not b then e ∷ [] else [])) plain
    ∙ ap (λ (b : Bool). if b then e ∷ [] else []) here)
    ∙ silent in
    absurd cc

own_side : (side own : Side) (l : ℕ) (e : Event) → is_on l e ≡ true → is_of_loop e ≡ false
    → told_on l (event_of (other side) (records.Of own e)) ≡ [] → own ≡ side
own_side Nb Nb l e here plain silent = refl
own_side Ue Ue l e here plain silent = refl
own_side Nb Ue l e here plain silent = absurd (is_told l e here plain silent)
own_side Ue Nb l e here plain silent = absurd (is_told l e here plain silent)

module _ (kinds : List (Option Layout)) (more : Bool) (l : ℕ) (side own : Side) (h : Histories) where
  abbrev IsLeftBy : Event → Type 0
  IsLeftBy e = (all_told histories (told_by kinds more own e) h).acked side l ≡ h.acked side l

  reorders : (lcid : ℕ) (e : FlowEvent) (u : UmEvent) → own ≡ side
      → (all_told histories (reorder_as (slice_index_or kinds lcid None) (other own) lcid e u) h).acked side l
      ≡ h.acked side l
  reorders lcid e u same =
      subst (λ (s : Side). (all_told histories (reorder_as (slice_index_or kinds lcid None) (other s) lcid e u)
      h).acked side l ≡ h.acked side l) (sym same)
      (reorder_leaves side (slice_index_or kinds lcid None) l lcid e u h)

  on_channel : (e : Event) → is_on l e ≡ true → TellsOfNoTaking l e
      → told_on l (event_of (other side) (records.Of own e)) ≡ [] → IsLeftBy e
  on_channel (events.Take lcid count len) here leaves silent = absurd (leaves here)
  on_channel (events.Report lcid fms bitmap) here leaves silent = absurd (leaves here)
  on_channel (events.Expired lcid Poll) here leaves silent = absurd (leaves here)
  on_channel (events.Expired lcid Reorder) here leaves silent =
      reorders lcid ReorderExpired um.ReorderExpired
      (own_side side own l (events.Expired lcid Reorder) here refl silent)
  on_channel (events.Expired lcid Prohibit) here leaves silent = refl
  on_channel (events.Start lcid Reorder) here leaves silent =
      reorders lcid ReorderStarted um.ReorderStarted
      (own_side side own l (events.Start lcid Reorder) here refl silent)
  on_channel (events.Start lcid Poll) here leaves silent = refl
  on_channel (events.Start lcid Prohibit) here leaves silent = refl
  on_channel e here leaves silent = refl

  event_leaves : (e : Event) → TellsOfNoTaking l e → told_on l (event_of (other side) (records.Of own e)) ≡ []
      → IsLeftBy e
  event_leaves e leaves silent = by (is_on l e) refl
    where
      by : (b : Bool) → is_on l e ≡ b → IsLeftBy e
      by true here = on_channel e here leaves silent
      by false away = all_elsewhere side l (told_by kinds more own e) h (event_elsewhere kinds more own l e away)

record_leaves : (kinds : List (Option Layout)) (more : Bool) (l : ℕ) (side : Side) (one : Record)
    (j : Journal Histories) → LeavesTaking l one → told_on l (event_of (other side) one) ≡ []
    → (behind_record histories kinds more one j).flows.acked side l ≡ j.flows.acked side l
record_leaves kinds more l side (records.Of own e) j leaves silent =
    ap (λ (f : Histories). f.acked side l) (flows_behind kinds more own e j)
    ∙ event_leaves kinds more l side own j.flows e leaves silent
record_leaves kinds more l side (records.Block direction process true rv octets) j leaves silent = absurd leaves
record_leaves kinds more l side (records.Block directions.Down process false rv octets) j leaves silent = refl
record_leaves kinds more l side (records.Block directions.Up process false rv octets) j leaves silent = refl
record_leaves kinds more l side (records.Air direction Got heard) j leaves silent = absurd leaves
record_leaves kinds more l side (records.Air direction what heard) j leaves silent = refl
record_leaves kinds more l side one j leaves silent = refl

pub both_nil : (xs ys : List Event) → xs ++ ys ≡ [] → (xs ≡ []) × (ys ≡ [])
both_nil [] ys none = (refl, none)
both_nil (x ∷ xs) ys none = let no : x ∷ (xs ++ ys) ≡ [] = none in absurd cc

-- the other side tells nothing on the channel
pub later_records_leave : (kinds : List (Option Layout)) (may_take : MayTake) (past : List Group) (before : List Record)
    (l : ℕ) (side : Side) (xs : List Record) (j : Journal Histories) → AllByRecursion (LeavesTaking l) xs
    → told_on l (events_of (other side) xs) ≡ []
    → (behind_records histories may_take past kinds before xs j).flows.acked side l ≡ j.flows.acked side l
later_records_leave kinds may_take past before l side [] j leaves silent = refl
later_records_leave kinds may_take past before l side (one ∷ xs) j leaves silent =
    let more = may_take past before one in
    let parts = both_nil (told_on l (event_of (other side) one)) (told_on l (events_of (other side) xs))
    (sym (told_then l (event_of (other side) one) (events_of (other side) xs)) ∙ silent) in
    later_records_leave kinds may_take past (one ∷ before) l side xs (behind_record histories kinds more one j)
    leaves.1 parts.1
    ∙ record_leaves kinds more l side one j leaves.0 parts.0

-- ---- what arrives tells none of them

module _ (l : ℕ) where
  abbrev AreOfNoTaking : List Event → Type 0
  AreOfNoTaking told = AllByRecursion (TellsOfNoTaking l) told

  event_none : (e : Event) → is_of_flow e ≡ false → TellsOfNoTaking l e
  event_none (events.Take lcid count len) q = absurd cc
  event_none (events.Report lcid fms bitmap) q = absurd cc
  event_none (events.Expired lcid Poll) q = absurd cc
  event_none e q = tt

  still_none : (told : List Event) → tell_flow told ≡ false → AreOfNoTaking told
  still_none [] q = tt
  still_none (e ∷ told) q =
      let parts = both_false (is_of_flow e) (tell_flow told) q in (event_none e parts.0, still_none told parts.1)

  then_none : (xs ys : List Event) → AreOfNoTaking xs → AreOfNoTaking ys → AreOfNoTaking (xs ++ ys)
  then_none xs ys p q = all_then (TellsOfNoTaking l) xs ys p q

  started_none : (lcid : ℕ) (b : Bool) → AreOfNoTaking (started_told lcid b)
  started_none lcid true = (tt, tt)
  started_none lcid false = tt

  stopped_none : (lcid : ℕ) (b : Bool) → AreOfNoTaking (stopped_told lcid b)
  stopped_none lcid true = (tt, tt)
  stopped_none lcid false = tt

  settled_none : (b : Bool) (w : Work) → AreOfNoTaking w.events → AreOfNoTaking (settled_if b w).events
  settled_none true w q =
      let b = starts w.tx (has_more w.pdcp) in
      then_none w.events (started_told w.pdcp.lcid b) q (started_none w.pdcp.lcid b)
  settled_none false w q = q

  hears_none : (sdus : List (List ℕ)) (w : Work) → AreOfNoTaking w.events → AreOfNoTaking (hears_all sdus w).events
  hears_none [] w q = q
  hears_none (sdu ∷ sdus) w q =
      let told = heard_told sdu Arrived w.pdcp in
      hears_none sdus (hears sdu w)
      (settled_none (applies sdu Arrived w.pdcp) (heard_work sdu w)
      (then_none w.events told q (still_none told (heard_still sdu Arrived w.pdcp))))

  status_none : (h : Heard) (w : Work) → AreOfNoTaking w.events → AreOfNoTaking (status_work h w).events
  status_none heard_as.Ignored w q = then_none w.events _ q (tt, tt)
  status_none (heard_as.Limit sn) w q = then_none w.events _ q (tt, tt)
  status_none (heard_as.Applied stopped) w q =
      let told = stopped_told w.pdcp.lcid stopped in
      settled_none true (record w { events = w.events ++ told })
      (then_none w.events told q (stopped_none w.pdcp.lcid stopped))

  arrived_none : (r : Result AcknowledgedPdu RlcRefusal) (b : State) → AreOfNoTaking (arrived_told r b)
  arrived_none (Err fault) b = (tt, tt)
  arrived_none (Ok (Payload p)) b =
      let told = landed_told b.pdcp.lcid (landed b.rx p) (turned b.rx p) in
      hears_none (arrived b.rx p).out.ready (work b.pdcp b.tx told)
      (still_none told (landed_still b.pdcp.lcid (landed b.rx p) (turned b.rx p)))
  arrived_none (Ok (Status p)) b =
      status_none (heard b.tx p)
      (work (confirms (after_status b.tx p).accounts.news b.pdcp) (all_confirmed (after_status b.tx p)) []) tt

pub arrivals_tell_no_taking : (l : ℕ) (b : State) (pdu : List ℕ)
    → AllByRecursion (TellsOfNoTaking l) (arriving l (Am b) pdu)
unfolding arriving am_arriving
arrivals_tell_no_taking l b pdu = arrived_none l (am_at pdu) b

pub arrivals_over : (l : ℕ) (b : State) (pdus : List (List ℕ))
    → AllByRecursion (TellsOfNoTaking l) (tells_over l (Am b) (arrivals pdus))
unfolding flow_arrived
arrivals_over l b [] = tt
arrivals_over l b (pdu ∷ pdus) =
    all_then (TellsOfNoTaking l) (arriving l (Am b) pdu) (tells_over l (Am (after_arrival b pdu)) (arrivals pdus))
    (arrivals_tell_no_taking l b pdu) (arrivals_over l (after_arrival b pdu) pdus)
