-- What happens at the sender, and what is told to the account (TS 36.323 5.1.1, 5.2.1.1, 5.3, 5.4).
use Rattle.std.specs.Prelude.{◌≡◌, ℕ, ◌≤◌, ◌<◌, Bool, true, false, if◌then◌else◌}
use Rattle.std.specs.Prelude.{List, Option, Some, None, is_some, slice_get}
use Rattle.eps_sec.specs.declared.keys.Keys.{Keys}
use Rattle.pdcp_pdu.specs.declared.pdu.PdcpKind.TheVariants.{Am}
use Rattle.pdcp_sec.specs.Protection.{Protection}
use Rattle.pdcp_tx_store.specs.declared.given.Entry.{Entry}
use Rattle.pdcp_tx_store.specs.declared.given.Entry.TheVariants.{Data, Own, Gone}
use Rattle.pdcp_tx_store.specs.Given.{entry_at, tells}
use Rattle.pdcp_tx.specs.State.{State, start, submitted, Offer, offers, took, low, confirmed}
use Rattle.pdcp_tx.specs.State.{fms_count, reported, owing, ticked, is_overdue, after_late}
use Rattle.pdcp_tx.specs.State.{restarted}
use Rattle.journal_takes.specs.declared.take.Take.{Take}
use Rattle.journal_takes.specs.declared.take.Take.TheVariants.{Report, Pdu}
use Rattle.journal_takes.specs.TakeEvents.{SduSubmitted, SduDiscarded, PduTaken, ReportTaken}
use Rattle.journal_takes.specs.TakeEvents.{PduConfirmed, ReportConfirmed, ReportHeard, LifeEnded}
use Rattle.journal_takes.specs.TakeEvents.{has_count}
use Rattle.journal_takes.specs.FlowTakes.{FlowTakes, no_takes, takes_with, next_take, sdu_kept}
use Rattle.law_takes.specs.Accounted.{is_confirmed, IsAccounted}

abbrev pub SendersBegin : Type 0
SendersBegin = (bits first : ℕ) (p : Protection)
    → IsAccounted (start (Am bits) p first) (no_takes first bits)

-- ---- SDUs that wait

abbrev pub SubmitsAreAccounted : Type 0
SubmitsAreAccounted = (s : State) (t : FlowTakes) (sdu : List ℕ) → IsAccounted s t
    → IsAccounted (submitted s sdu) (takes_with (SduSubmitted sdu) t)

abbrev pub discarded_if : Bool → FlowTakes → FlowTakes
discarded_if late t = if late then takes_with SduDiscarded t else t

-- a TTI that begins changes nothing, nor does another length of the discard timer
pub record WaitsAlike (s : State) (t : FlowTakes) : Type 0 where
  pub ticks : IsAccounted (ticked s) t
  pub timer : (ttis : ℕ) → IsAccounted (record s { discard = Some ttis }) t
  pub discards : IsAccounted (after_late s) (discarded_if (is_overdue s) t)

abbrev pub DiscardsAreAccounted : Type 0
DiscardsAreAccounted = (s : State) (t : FlowTakes) → IsAccounted s t → WaitsAlike s t

-- ---- RLC takes what is next

-- the status report, or the SDU of a COUNT
abbrev pub IsOf : FlowTakes → Offer → Take → Type 0
IsOf t o Report = o.count ≡ None
IsOf t o (Pdu count) = (o.count ≡ Some count) × (sdu_kept count t ≡ Some o.text)

abbrev pub IsOffered : FlowTakes → Option Offer → Option Take → Type 0
IsOffered t None None = Unit {0}
IsOffered t None (Some take) = ⊥
IsOffered t (Some o) None = ⊥
IsOffered t (Some o) (Some take) = IsOf t o take

pub record OffersAlike (s : State) (t : FlowTakes) : Type 0 where
  pub low : low s ≡ t.low
  pub first : IsOffered t (slice_get (offers s) 0) (next_take t)
  pub some : is_some (slice_get (offers s) 0) ≡ is_some (next_take t)

abbrev pub OffersAreAccounted : Type 0
OffersAreAccounted = (s : State) (t : FlowTakes) → IsAccounted s t → OffersAlike s t

abbrev pub taken_by : Option Take → FlowTakes → FlowTakes
taken_by None t = t
taken_by (Some Report) t = takes_with ReportTaken t
taken_by (Some (Pdu count)) t = takes_with (PduTaken count) t

abbrev pub TakesAreAccounted : Type 0
TakesAreAccounted = (s : State) (t : FlowTakes) → IsAccounted s t
    → IsAccounted (took s) (taken_by (next_take t) t)

-- ---- RLC confirms what it was given

-- what is gone was confirmed before
abbrev pub confirmed_as : Option Entry → FlowTakes → FlowTakes
confirmed_as None t = t
confirmed_as (Some (Data x)) t = takes_with (PduConfirmed x.count) t
confirmed_as (Some Own) t = takes_with ReportConfirmed t
confirmed_as (Some Gone) t = t

abbrev pub ConfirmsAreAccounted : Type 0
ConfirmsAreAccounted = (s : State) (t : FlowTakes) (place : ℕ) → IsAccounted s t
    → IsAccounted (confirmed s place) (confirmed_as (entry_at s.given place) t)

-- to confirm it once more changes nothing
pub record ConfirmsOnce (s : State) (t : FlowTakes) : Type 0 where
  pub pdus : (count : ℕ) → count < t.next → is_confirmed t count ≡ true
      → IsAccounted s (takes_with (PduConfirmed count) t)
  pub report : t.reporting ≡ false → IsAccounted s (takes_with ReportConfirmed t)

abbrev pub ConfirmedStays : Type 0
ConfirmedStays = (s : State) (t : FlowTakes) → IsAccounted s t → ConfirmsOnce s t

-- ---- a status report comes

-- its FMS is read as a COUNT, and of the COUNTs from there on that were taken it marks those whose
-- bits are 1 (5.3.2, 6.2.6)
pub record IsReport (s : State) (from : ℕ) (marks : List ℕ) (fms : ℕ) (bitmap : List ℕ) : Type 0
  where
    pub read : fms_count s.kind s.base fms ≡ Some from
    pub marked : (count : ℕ) → from ≤ count → count < s.next
        → has_count marks count ≡ tells from bitmap count

abbrev pub ReportsAreAccounted : Type 0
ReportsAreAccounted = (s : State) (t : FlowTakes) (from : ℕ) (marks : List ℕ) (fms : ℕ)
    (bitmap : List ℕ) → IsReport s from marks fms bitmap → IsAccounted s t
    → IsAccounted (reported s fms bitmap) (takes_with (ReportHeard from marks) t)

-- ---- the next life begins, with a report of what has come the other way or without one

pub record BeginsAlike (s : State) (t : FlowTakes) (keys : Keys) : Type 0 where
  pub plain : IsAccounted (restarted s keys) (takes_with (LifeEnded false) t)
  pub owing : (report : List ℕ)
      → IsAccounted (owing (restarted s keys) report) (takes_with (LifeEnded true) t)

abbrev pub LivesAreAccounted : Type 0
LivesAreAccounted = (s : State) (t : FlowTakes) (keys : Keys) → IsAccounted s t
    → BeginsAlike s t keys
