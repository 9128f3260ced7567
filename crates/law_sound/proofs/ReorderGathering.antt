-- The records of t-Reordering are gathered for the flow that their side hears.
use Rattle.std.proofs.Common.{◌≡◌, ℕ, ◌+◌, ◌==◌, Bool, true, false, ◌&&◌, if◌then◌else◌, List, [], ◌∷◌, ◌++◌, length}
use Rattle.std.proofs.Common.{Option, Some, None, append-nil, refl, ap, sym, ◌∙◌}
use Rattle.std.specs.List.{AllByRecursion}
use Rattle.std.specs.Prelude.{slice_index_or}
use Rattle.std.proofs.lemmas.Bool.{eqb-true}
use Rattle.l2_types.specs.declared.event.Clock.TheVariants.{Poll, Reorder, Prohibit}
use Rattle.l2_types.specs.declared.side.Side.{Side}
use Rattle.l2_types.specs.declared.side.Side.TheVariants.{Nb, Ue}
use Rattle.pdcp_pdu.specs.declared.pdu.PdcpKind.{PdcpKind}
use Rattle.pdcp_pdu.specs.declared.pdu.PdcpKind.TheVariants as pdcp
use Rattle.pdu_show.specs.declared.kinds.Layout.{Layout}
use Rattle.pdu_show.specs.declared.kinds.Layout.TheVariants as layouts
use Rattle.bearer_types.specs.declared.event.Event.{Event}
use Rattle.bearer_types.specs.declared.event.Event.TheVariants as events
use Rattle.bearer_types.specs.Sides.{other, is_same}
use Rattle.promises.specs.Events.{is_on, told_on}
use Rattle.journal_account.specs.FlowEvents.{FlowEvent, PollExpired, ReorderStarted, ReorderExpired}
use Rattle.journal_lives.specs.LifeEvents.{LifeEvent, PduGiven, InLife, running}
use Rattle.journal_um.specs.UmEvents.{UmEvent}
use Rattle.journal_um.specs.UmEvents as um
use Rattle.journal_flows.specs.FlowsTold.{Histories, histories, is_at, with_told}
use Rattle.journal_flows.specs.Possible.{with_event}
use Rattle.journal_flows.specs.Gathering.{all_told, taken_as, report_as, reorder_as, told_by}
use Rattle.journal_flows.specs.NumberedPdus.{AnyEvent, Acked, Unacked, Told, told}
use Rattle.law_deliver.specs.AmFlow.Reordering.{Reordering, reordering_told, reordering_in}
use Rattle.law_deliver.proofs.AmFlow.Reordering.{in_both}
use Rattle.law_run.specs.TwoEnds.SenderLog.{telling}
use Rattle.law_sound.specs.GatherLaws.{HasCount}
use Rattle.law_sound.specs.HearingLaws.{with_reordering}
use Rattle.law_sound.specs.LogLaws.{with_log}
use Rattle.law_sound.specs.ReorderingLaws.{ReorderingsAreGathered, AreGatheredOver, ToldIsGathered}
use Rattle.law_sound.proofs.Gathering.{own_running, events_gathered}
use Rattle.law_sound.proofs.Hearings.{reordering_then}

-- what is told of a flow says nothing of the one back
stays : (side : Side) (l : ℕ) (e : LifeEvent) (h : Histories)
    → (all_told histories (told side l e) h).acked (other side) l ≡ h.acked (other side) l
stays Nb l e h = refl
stays Ue l e h = refl

-- with the layout of the channel
module _ (side : Side) (l : ℕ) (h : Histories) where
  abbrev behind : List Told → List FlowEvent
  behind ts = running ((all_told histories ts h).acked (other side) l)

  abbrev now : List FlowEvent
  now = running (h.acked (other side) l)

  back_stays : (e : LifeEvent) → behind (told side l e) ≡ now
  back_stays e = ap (λ (es : List LifeEvent). running es) (stays side l e h)

  taken : (kind : PdcpKind) (count : Option ℕ) (len : ℕ)
      → behind (taken_as (Some (layouts.Am kind)) side l count len) ≡ now
  taken pdcp.Srb count len = back_stays (PduGiven None (len + 5))
  taken (pdcp.Um bits) count len = back_stays (PduGiven count (len + 2))
  taken (pdcp.Am bits) count len = back_stays (PduGiven count (len + 2))

  reported : (kind : PdcpKind) (len : ℕ) → behind (report_as (Some (layouts.Am kind)) side l len) ≡ now
  reported pdcp.Srb len = refl
  reported (pdcp.Um bits) len = refl
  reported (pdcp.Am bits) len = back_stays (PduGiven None ((if bits == 12 then 2 else 3) + len))

  -- of its own layout and LCID
  on : (kinds : List (Option Layout)) (kind : PdcpKind) (lcid : ℕ) (ts : Option Layout → ℕ → List Told)
      (es : List FlowEvent) → slice_index_or kinds l None ≡ Some (layouts.Am kind) → (lcid == l) ≡ true
      → behind (ts (Some (layouts.Am kind)) l) ≡ es → behind (ts (slice_index_or kinds lcid None) lcid) ≡ es
  on kinds kind lcid ts es k here q =
      ap (λ (n : ℕ). behind (ts (slice_index_or kinds n None) n)) (eqb-true lcid l here)
      ∙ (ap (λ (x : Option Layout). behind (ts x l)) k ∙ q)

pub reorderings_gathered : ReorderingsAreGathered
reorderings_gathered kinds kind more side l (events.Take lcid count len) h k here =
    on side l h kinds kind lcid (λ x n. taken_as x side n count len) _ k here (taken side l h kind count len)
reorderings_gathered kinds kind more side l (events.Report lcid fms bitmap) h k here =
    on side l h kinds kind lcid (λ x n. report_as x side n (length bitmap)) _ k here
    (reported side l h kind (length bitmap))
reorderings_gathered kinds kind more side l (events.Expired lcid Poll) h k here =
    on side l h kinds kind lcid (λ x n. told side n (InLife (PollExpired more))) _ k here
    (back_stays side l h (InLife (PollExpired more)))
reorderings_gathered kinds kind more side l (events.Expired lcid Reorder) h k here =
    on side l h kinds kind lcid (λ x n. reorder_as x (other side) n ReorderExpired um.ReorderExpired) _ k here
    (own_running (other side) l (InLife ReorderExpired) h refl)
reorderings_gathered kinds kind more side l (events.Expired lcid Prohibit) h k here = refl
reorderings_gathered kinds kind more side l (events.Start lcid Reorder) h k here =
    on side l h kinds kind lcid (λ x n. reorder_as x (other side) n ReorderStarted um.ReorderStarted) _ k here
    (own_running (other side) l (InLife ReorderStarted) h refl)
reorderings_gathered kinds kind more side l (events.Start lcid Poll) h k here = refl
reorderings_gathered kinds kind more side l (events.Start lcid Prohibit) h k here = refl
reorderings_gathered kinds kind more side l e h k here = refl

-- ---- what is told on another channel

abbrev pub IsElsewhere : ℕ → Told → Type 0
IsElsewhere l t = (t.lcid == l) ≡ false

one_elsewhere : (from : Side) (l : ℕ) (t : Told) (h : Histories) → IsElsewhere l t
    → (with_told t h).acked from l ≡ h.acked from l
one_elsewhere from l t h apart = by t.event
  where
    at : is_at t.side t.lcid from l ≡ false
    at = ap (λ (b : Bool). is_same t.side from && b) apart ∙ none (is_same t.side from)
      where
        none : (b : Bool) → (b && false) ≡ false
        none true = refl
        none false = refl

    by : (e : AnyEvent)
        → (with_told (record { side = t.side; lcid = t.lcid; event = e }) h).acked from l ≡ h.acked from l
    by (Acked e) = ap (λ (b : Bool). if b then with_event e (h.acked from l) else h.acked from l) at
    by (Unacked e) = refl

pub all_elsewhere : (from : Side) (l : ℕ) (ts : List Told) (h : Histories) → AllByRecursion (IsElsewhere l) ts
    → (all_told histories ts h).acked from l ≡ h.acked from l
all_elsewhere from l [] h apart = refl
all_elsewhere from l (t ∷ ts) h apart =
    all_elsewhere from l ts (with_told t h) apart.1 ∙ one_elsewhere from l t h apart.0

module _ (l : ℕ) (side : Side) (lcid : ℕ) (apart : (lcid == l) ≡ false) where
  taken_elsewhere : (x : Option Layout) (count : Option ℕ) (len : ℕ)
      → AllByRecursion (IsElsewhere l) (taken_as x side lcid count len)
  taken_elsewhere (Some (layouts.Am pdcp.Srb)) count len = (apart, tt)
  taken_elsewhere (Some (layouts.Am (pdcp.Um bits))) count len = (apart, tt)
  taken_elsewhere (Some (layouts.Am (pdcp.Am bits))) count len = (apart, tt)
  taken_elsewhere (Some (layouts.Um rlc (pdcp.Um bits))) count len = (apart, tt)
  taken_elsewhere (Some (layouts.Um rlc pdcp.Srb)) count len = tt
  taken_elsewhere (Some (layouts.Um rlc (pdcp.Am bits))) count len = tt
  taken_elsewhere (Some layouts.Tm) count len = tt
  taken_elsewhere None count len = tt

  report_elsewhere : (x : Option Layout) (len : ℕ) → AllByRecursion (IsElsewhere l) (report_as x side lcid len)
  report_elsewhere (Some (layouts.Am pdcp.Srb)) len = tt
  report_elsewhere (Some (layouts.Am (pdcp.Um bits))) len = tt
  report_elsewhere (Some (layouts.Am (pdcp.Am bits))) len = (apart, tt)
  report_elsewhere (Some (layouts.Um rlc kind)) len = tt
  report_elsewhere (Some layouts.Tm) len = tt
  report_elsewhere None len = tt

  reorder_elsewhere : (x : Option Layout) (e : FlowEvent) (u : UmEvent)
      → AllByRecursion (IsElsewhere l) (reorder_as x side lcid e u)
  reorder_elsewhere (Some (layouts.Am kind)) e u = (apart, tt)
  reorder_elsewhere (Some (layouts.Um rlc kind)) e u = (apart, tt)
  reorder_elsewhere (Some layouts.Tm) e u = (apart, tt)
  reorder_elsewhere None e u = (apart, tt)

pub event_elsewhere : (kinds : List (Option Layout)) (more : Bool) (side : Side) (l : ℕ) (e : Event)
    → is_on l e ≡ false → AllByRecursion (IsElsewhere l) (told_by kinds more side e)
event_elsewhere kinds more side l (events.Take lcid count len) q =
    taken_elsewhere l side lcid q (slice_index_or kinds lcid None) count len
event_elsewhere kinds more side l (events.Report lcid fms bitmap) q =
    report_elsewhere l side lcid q (slice_index_or kinds lcid None) (length bitmap)
event_elsewhere kinds more side l (events.Start lcid Reorder) q =
    reorder_elsewhere l (other side) lcid q (slice_index_or kinds lcid None) ReorderStarted um.ReorderStarted
event_elsewhere kinds more side l (events.Start lcid Poll) q = tt
event_elsewhere kinds more side l (events.Start lcid Prohibit) q = tt
event_elsewhere kinds more side l (events.Expired lcid Reorder) q =
    reorder_elsewhere l (other side) lcid q (slice_index_or kinds lcid None) ReorderExpired um.ReorderExpired
event_elsewhere kinds more side l (events.Expired lcid Poll) q = (q, tt)
event_elsewhere kinds more side l (events.Expired lcid Prohibit) q = tt
event_elsewhere kinds more side l e q = tt

-- ---- all that is told

-- behind the first
one_more : (kinds : List (Option Layout)) (kind : PdcpKind) (more : Bool) (side : Side) (l : ℕ) (e : Event)
    (told : List Event) (h : Histories) → slice_index_or kinds l None ≡ Some (layouts.Am kind) → HasCount kind e
    → AreGatheredOver kinds kind more side l told (all_told histories (told_by kinds more side e) h)
    → AreGatheredOver kinds kind more side l (e ∷ told) h
one_more kinds kind more side l e told h k count rest = by (is_on l e) refl
  where
    by : (b : Bool) → is_on l e ≡ b → AreGatheredOver kinds kind more side l (e ∷ told) h
    by true here = record {
      own = rest.own
          ∙ (ap (with_log kind more (telling (told_on l told)))
          (events_gathered kinds kind more side l e h k here count)
          ∙ ap (λ (b : Bool). with_log kind more (telling (if b then e ∷ told_on l told else told_on l told))
          (running (h.acked side l))) (sym here));
      back = rest.back
          ∙ (ap (with_reordering (reordering_in (told_on l told)))
          (reorderings_gathered kinds kind more side l e h k here)
          ∙ (sym (reordering_then (reordering_told e) (reordering_in (told_on l told))
          (running (h.acked (other side) l)))
          ∙ (ap (λ (rs : List Reordering). with_reordering rs (running (h.acked (other side) l)))
          (sym (in_both (e ∷ []) (told_on l told) ∙ ap (λ (rs : List Reordering). rs ++ reordering_in (told_on l told))
          (append-nil (reordering_told e))))
          ∙ ap (λ (b : Bool). with_reordering (reordering_in (if b then e ∷ told_on l told else told_on l told))
          (running (h.acked (other side) l))) (sym here))));
    }
    by false away = record {
      own = rest.own
          ∙ (ap (λ (es : List LifeEvent). with_log kind more (telling (told_on l told)) (running es))
          (all_elsewhere side l (told_by kinds more side e) h (event_elsewhere kinds more side l e away))
          ∙ ap (λ (b : Bool). with_log kind more (telling (if b then e ∷ told_on l told else told_on l told))
          (running (h.acked side l))) (sym away));
      back = rest.back
          ∙ (ap (λ (es : List LifeEvent). with_reordering (reordering_in (told_on l told)) (running es))
          (all_elsewhere (other side) l (told_by kinds more side e) h (event_elsewhere kinds more side l e away))
          ∙ ap (λ (b : Bool). with_reordering (reordering_in (if b then e ∷ told_on l told else told_on l told))
          (running (h.acked (other side) l))) (sym away));
    }

pub told_is_gathered : ToldIsGathered
told_is_gathered kinds kind more side l [] h k counts = record { own = refl; back = refl }
told_is_gathered kinds kind more side l (e ∷ told) h k counts =
    one_more kinds kind more side l e told h k counts.0
    (told_is_gathered kinds kind more side l told (all_told histories (told_by kinds more side e) h) k counts.1)
