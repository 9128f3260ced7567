-- What a record of t-Reordering adds to the flow that its side hears is what it tells
-- (docs/formats/JOURNAL.md; TS 36.322 5.1.3.2.3, 5.1.3.2.4).
use Rattle.std.specs.Prelude.{◌≡◌, ℕ, Bool, true, List, [], ◌∷◌, Option, Some, None}
use Rattle.std.specs.Prelude.{slice_index_or}
use Rattle.std.specs.List.{AllByRecursion}
use Rattle.l2_types.specs.declared.side.Side.{Side}
use Rattle.pdcp_pdu.specs.declared.pdu.PdcpKind.{PdcpKind}
use Rattle.pdu_show.specs.declared.kinds.Layout.{Layout}
use Rattle.pdu_show.specs.declared.kinds.Layout.TheVariants as layouts
use Rattle.bearer_types.specs.declared.event.Event.{Event}
use Rattle.bearer_types.specs.Sides.{other}
use Rattle.promises.specs.Events.{is_on, told_on}
use Rattle.journal_lives.specs.LifeEvents.{running}
use Rattle.journal_flows.specs.FlowsTold.{Histories, histories}
use Rattle.journal_flows.specs.Gathering.{all_told, told_by}
use Rattle.law_deliver.specs.AmFlow.Reordering.{reordering_told, reordering_in}
use Rattle.law_run.specs.TwoEnds.SenderLog.{telling}
use Rattle.law_sound.specs.GatherLaws.{HasCount}
use Rattle.law_sound.specs.HearingLaws.{with_reordering}
use Rattle.law_sound.specs.LogLaws.{with_log}

-- on a channel with an acknowledged bearer; no other record of its receiver's end adds anything
abbrev pub ReorderingsAreGathered : Type 0
ReorderingsAreGathered =
    (kinds : List (Option Layout)) (kind : PdcpKind) (more : Bool) (side : Side) (l : ℕ) (e : Event)
    (h : Histories) → slice_index_or kinds l None ≡ Some (layouts.Am kind) → is_on l e ≡ true
    → running ((all_told histories (told_by kinds more side e) h).acked (other side) l)
    ≡ with_reordering (reordering_told e) (running (h.acked (other side) l))

-- ---- so of all that a side tells, one behind the other

abbrev pub with_events : List (Option Layout) → Bool → Side → List Event → Histories → Histories
with_events kinds more side [] h = h
with_events kinds more side (e ∷ told) h =
    with_events kinds more side told (all_told histories (told_by kinds more side e) h)

-- its own flow of a channel has what is logged of it, the one that comes what t-Reordering does
pub record AreGatheredOver (kinds : List (Option Layout)) (kind : PdcpKind) (more : Bool)
    (side : Side) (l : ℕ) (told : List Event) (h : Histories) : Type 0 where
  pub own : running ((with_events kinds more side told h).acked side l)
      ≡ with_log kind more (telling (told_on l told)) (running (h.acked side l))
  pub back : running ((with_events kinds more side told h).acked (other side) l)
      ≡ with_reordering (reordering_in (told_on l told)) (running (h.acked (other side) l))

abbrev pub ToldIsGathered : Type 0
ToldIsGathered =
    (kinds : List (Option Layout)) (kind : PdcpKind) (more : Bool) (side : Side) (l : ℕ)
    (told : List Event) (h : Histories) → slice_index_or kinds l None ≡ Some (layouts.Am kind)
    → AllByRecursion (HasCount kind) told → AreGatheredOver kinds kind more side l told h
