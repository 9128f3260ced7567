-- When the `take`, `report` and `discard` records of acknowledged data in a journal are right,
-- whoever made it
-- (TS 36.323 5.1.1, 5.2.1.1, 5.3.1; docs/formats/JOURNAL.md): each is what is takeable next.
use Rattle.std.specs.Prelude.{ℕ, ◌≡◌, ◌<◌, ◌+◌, ◌-◌, ◌*◌, ◌^◌, ◌%◌, List, [], ◌∷◌, length, Option}
use Rattle.std.specs.Prelude.{Some, None}
use Rattle.std.specs.Prelude.{MatchOption}
use Rattle.l2_types.specs.declared.side.Side.{Side}
use Rattle.pdcp_pdu.specs.Grammar.{IsBitmap}
use Rattle.bearer_types.specs.declared.event.Event.{Event}
use Rattle.bearer_types.specs.declared.event.Event.TheVariants as events
use Rattle.air_record.specs.declared.record.Record.{Record}
use Rattle.air_record.specs.declared.record.Record.TheVariants as records
use Rattle.air_text.specs.Groups.{Group}
use Rattle.journal_lives.specs.CountsCome.{CountsCome}
use Rattle.journal_takes.specs.declared.take.Take.{Take}
use Rattle.journal_takes.specs.declared.take.Take.TheVariants.{Report, Pdu}
use Rattle.journal_takes.specs.TakeEvents.{next_new, kept, sdu_of}
use Rattle.journal_takes.specs.Takeable.{IsTakeable}
use Rattle.journal_given.specs.Supplies.{History, histories, Supply, Bearer, marked_from}
use Rattle.journal_given.specs.Giving.{Giving, side_of, bearer_at, settled, after_line}
use Rattle.journal_given.specs.Giving.{after_record, all_given}

-- ---- by the history of the data

abbrev pub MayBeNext : History → Option Take → Type 0
MayBeNext h next = IsTakeable h.first h.bits h.events next

-- RLC takes the PDU of a COUNT: the one that is takeable next, with the length of its SDU
pub record TakeIsRight (count : Option ℕ) (len : ℕ) (s : Supply History) : Type 0 where
  pub own : ℕ
  pub count_is : count ≡ Some own
  pub next : MayBeNext s.takes (Some (Pdu own))
  pub len_is : MatchOption (sdu_of s.takes.first s.takes.events own) ⊥ (λ sdu. length sdu ≡ len)

-- a report says which COUNTs have come: its FMS is the first that hasn't, and its bitmap, which is
-- no longer than its last 1, marks those beyond it that have (6.2.6, 6.3.9, 6.3.10)
pub record IsSaid (fms : ℕ) (bitmap : List ℕ) (bits : ℕ) (come : CountsCome) : Type 0 where
  pub fms_is : fms ≡ come.next % 2 ^ bits
  pub marks_are : marked_from bitmap (come.next + 1) 0 (8 * length bitmap) ≡ come.beyond
  pub short : IsBitmap bitmap

-- RLC takes the status report: it is due, and says what had come as the life began
pub record ReportIsRight (fms : ℕ) (bitmap : List ℕ) (s : Supply History) : Type 0 where
  pub next : MayBeNext s.takes (Some Report)
  pub said : IsSaid fms bitmap s.bits s.said

-- the first SDU that waits is discarded: there is one
pub record DiscardIsRight (s : Supply History) : Type 0 where
  pub waits : next_new s.takes.first s.takes.events - s.takes.first
      < length (kept s.takes.first s.takes.events)

-- ---- a record, by what its line and those before it told; other bearers aren't judged

abbrev pub OnBearer : Option (Bearer History) → Side → (Supply History → Type 0) → Type 0
OnBearer None side right = Unit {0}
OnBearer (Some b) side right = right (side_of side b)

abbrev pub IsRightEvent : Side → Event → Giving History → Type 0
IsRightEvent side (events.Take lcid count len) g =
    OnBearer (bearer_at lcid g.bearers) side (TakeIsRight count len)
IsRightEvent side (events.Report lcid fms bitmap) g =
    OnBearer (bearer_at lcid g.bearers) side (ReportIsRight fms bitmap)
IsRightEvent side (events.Discard lcid len) g =
    OnBearer (bearer_at lcid g.bearers) side DiscardIsRight
IsRightEvent side event g = Unit {0}

abbrev pub IsRightRecord : Record → Giving History → Type 0
IsRightRecord (records.Of side event) g = IsRightEvent side event g
IsRightRecord one g = Unit {0}

-- ---- a journal, record by record and group by group

abbrev pub AreRightRecords : List Record → Giving History → Type 0
AreRightRecords [] g = Unit {0}
AreRightRecords (one ∷ records') g =
    IsRightRecord one (settled histories one g)
    × AreRightRecords records' (after_record histories one g)

abbrev pub TakesAreRight : List Group → Type 0
TakesAreRight [] = Unit {0}
TakesAreRight (now ∷ past) =
    AreRightRecords now.events (after_line histories now.line (all_given histories past))
    × TakesAreRight past
