-- What is read of the history of a flow stays over the events of an end, where it stays over each that such an event
-- may add to the history.
use Rattle.std.proofs.Common.{◌≡◌, ℕ, ◌+◌, ◌==◌, Bool, true, false, if◌then◌else◌, Option, Some, None, List, [], ◌∷◌}
use Rattle.std.proofs.Common.{length, refl, ap, ◌∙◌}
use Rattle.std.specs.List.{AllByRecursion}
use Rattle.std.specs.Prelude.{slice_index_or}
use Rattle.air_record.specs.declared.record.Record.TheVariants as records
use Rattle.bearer_types.specs.Sides.{other}
use Rattle.bearer_types.specs.declared.event.Event.{Event}
use Rattle.bearer_types.specs.declared.event.Event.TheVariants as events
use Rattle.l2_types.specs.declared.event.Clock.TheVariants.{Poll, Reorder, Prohibit}
use Rattle.l2_types.specs.declared.side.Side.{Side}
use Rattle.pdcp_pdu.specs.declared.pdu.PdcpKind.TheVariants as pdcp
use Rattle.pdu_show.specs.declared.kinds.Layout.{Layout}
use Rattle.pdu_show.specs.declared.kinds.Layout.TheVariants as layouts
use Rattle.journal_account.specs.FlowEvents.{FlowEvent, PollExpired, ReorderStarted, ReorderExpired, next_of}
use Rattle.journal_lives.specs.LifeEvents.{LifeEvent, PduGiven, InLife, running}
use Rattle.journal_um.specs.UmEvents.{UmEvent}
use Rattle.journal_um.specs.UmEvents as um
use Rattle.journal_flows.specs.FlowsTold.{Histories, histories, is_at, with_told}
use Rattle.journal_flows.specs.Gathering.{Journal, all_told, taken_as, report_as, reorder_as, told_by, behind_record}
use Rattle.journal_flows.specs.NumberedPdus.{Told, told}
use Rattle.journal_flows.specs.Possible.{is_possible}
use Rattle.law_sound.proofs.OtherRecords.{flows_behind}

module _ {A : Type 0} (read : List LifeEvent → A) where
  abbrev pub StaysOver : LifeEvent → Type 0
  StaysOver e = (es : List LifeEvent) → read (e ∷ es) ≡ read es

  abbrev Keeps : Told → Type 0
  Keeps t = (side : Side) (l : ℕ) (h : Histories) → read ((with_told t h).acked side l) ≡ read (h.acked side l)

  abbrev pub AreKeeping : List Told → Type 0
  AreKeeping ts = AllByRecursion Keeps ts

  pub told_keeps : (from : Side) (lcid : ℕ) (e : LifeEvent) → StaysOver e → AreKeeping (told from lcid e)
  told_keeps from lcid e stays = (
    λ side l h.
        by (is_at from lcid side l) (is_possible (next_of (running (h.acked side l))) e) (h.acked side l),
    tt,
  )
    where
      by : (here can : Bool) (es : List LifeEvent)
          → read (if here then (if can then e ∷ es else es) else es) ≡ read es
      by true true es = stays es
      by true false es = refl
      by false can es = refl

  pub all_keep : (ts : List Told) → AreKeeping ts → (side : Side) (l : ℕ) (h : Histories)
      → read ((all_told histories ts h).acked side l) ≡ read (h.acked side l)
  all_keep [] keep side l h = refl
  all_keep (t ∷ ts) keep side l h = all_keep ts keep.1 side l (with_told t h) ∙ keep.0 side l h

  -- ---- what happens at an end

  module _ (given : (count : Option ℕ) (size : ℕ) → StaysOver (PduGiven count size))
      (polls : (more : Bool) → StaysOver (InLife (PollExpired more))) (starts : StaysOver (InLife ReorderStarted))
      (expires : StaysOver (InLife ReorderExpired)) where
    taken_keeps : (x : Option Layout) (side : Side) (lcid : ℕ) (count : Option ℕ) (len : ℕ)
        → AreKeeping (taken_as x side lcid count len)
    taken_keeps (Some (layouts.Am pdcp.Srb)) side lcid count len =
        told_keeps side lcid (PduGiven None (len + 5)) (given None (len + 5))
    taken_keeps (Some (layouts.Am (pdcp.Um bits))) side lcid count len =
        told_keeps side lcid (PduGiven count (len + 2)) (given count (len + 2))
    taken_keeps (Some (layouts.Am (pdcp.Am bits))) side lcid count len =
        told_keeps side lcid (PduGiven count (len + 2)) (given count (len + 2))
    taken_keeps (Some (layouts.Um rlc (pdcp.Um bits))) side lcid count len = (λ s l h. refl, tt)
    taken_keeps (Some (layouts.Um rlc pdcp.Srb)) side lcid count len = tt
    taken_keeps (Some (layouts.Um rlc (pdcp.Am bits))) side lcid count len = tt
    taken_keeps (Some layouts.Tm) side lcid count len = tt
    taken_keeps None side lcid count len = tt

    report_keeps : (x : Option Layout) (side : Side) (lcid len : ℕ) → AreKeeping (report_as x side lcid len)
    report_keeps (Some (layouts.Am pdcp.Srb)) side lcid len = tt
    report_keeps (Some (layouts.Am (pdcp.Um bits))) side lcid len = tt
    report_keeps (Some (layouts.Am (pdcp.Am bits))) side lcid len =
        told_keeps side lcid (PduGiven None ((if bits == 12 then 2 else 3) + len))
        (given None ((if bits == 12 then 2 else 3) + len))
    report_keeps (Some (layouts.Um rlc kind)) side lcid len = tt
    report_keeps (Some layouts.Tm) side lcid len = tt
    report_keeps None side lcid len = tt

    reorder_keeps : (x : Option Layout) (side : Side) (lcid : ℕ) (e : FlowEvent) (u : UmEvent) → StaysOver (InLife e)
        → AreKeeping (reorder_as x side lcid e u)
    reorder_keeps (Some (layouts.Am kind)) side lcid e u stays = told_keeps side lcid (InLife e) stays
    reorder_keeps (Some (layouts.Um rlc kind)) side lcid e u stays = (λ s l h. refl, tt)
    reorder_keeps (Some layouts.Tm) side lcid e u stays = told_keeps side lcid (InLife e) stays
    reorder_keeps None side lcid e u stays = told_keeps side lcid (InLife e) stays

    event_keeps : (kinds : List (Option Layout)) (more : Bool) (side : Side) (e : Event)
        → AreKeeping (told_by kinds more side e)
    event_keeps kinds more side (events.Take lcid count len) =
        taken_keeps (slice_index_or kinds lcid None) side lcid count len
    event_keeps kinds more side (events.Report lcid fms bitmap) =
        report_keeps (slice_index_or kinds lcid None) side lcid (length bitmap)
    event_keeps kinds more side (events.Start lcid Reorder) =
        reorder_keeps (slice_index_or kinds lcid None) (other side) lcid ReorderStarted um.ReorderStarted starts
    event_keeps kinds more side (events.Start lcid Poll) = tt
    event_keeps kinds more side (events.Start lcid Prohibit) = tt
    event_keeps kinds more side (events.Expired lcid Reorder) =
        reorder_keeps (slice_index_or kinds lcid None) (other side) lcid ReorderExpired um.ReorderExpired expires
    event_keeps kinds more side (events.Expired lcid Poll) =
        told_keeps side lcid (InLife (PollExpired more)) (polls more)
    event_keeps kinds more side (events.Expired lcid Prohibit) = tt
    event_keeps kinds more side e = tt

    -- behind its record
    pub own_record_keeps : (kinds : List (Option Layout)) (more : Bool) (own : Side) (e : Event) (side : Side) (l : ℕ)
        (j : Journal Histories)
        → read ((behind_record histories kinds more (records.Of own e) j).flows.acked side l)
        ≡ read (j.flows.acked side l)
    own_record_keeps kinds more own e side l j =
        ap (λ (h : Histories). read (h.acked side l)) (flows_behind kinds more own e j)
        ∙ all_keep (told_by kinds more own e) (event_keeps kinds more own e) side l j.flows
