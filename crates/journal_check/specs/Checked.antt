-- What the checker answers to the texts of a journal, one by one, and at their end
-- (docs/CHECKING.md).
use Rattle.std.specs.Prelude.{ℕ, ◌≡◌, ◌⊎◌, ◌+◌, ◌<◌, Bool, true, false, not, ◌&&◌, List, [], ◌∷◌}
use Rattle.std.specs.Prelude.{length, drop, Option, None, Some, Result, Ok, Err, if◌then◌else◌}
use Rattle.air_record.specs.declared.record.Record.{Record}
use Rattle.air_record.specs.declared.record.Record.TheVariants as records
use Rattle.air_text.specs.Groups.{Group}
use Rattle.journal_form.specs.Lines.{HasLayout}
use Rattle.journal_check.specs.declared.fault.CheckFault.{CheckFault}
use Rattle.journal_check.specs.declared.fault.CheckFault.TheVariants.{Refused, NoMemory}
use Rattle.journal_check.specs.declared.fault.CheckWhy.{CheckWhy}
use Rattle.journal_check.specs.declared.limits.TheConstants.{MOST_RECORDS}
use Rattle.journal_check.specs.Checks.{IsTextOf, HasNoRecord, TellsRecords}
use Rattle.journal_check.specs.Grouped.{GroupedRecords, record_count, with_record, has_any}
use Rattle.journal_check.specs.Grouped.{record_fault}
use Rattle.promises.specs.LineRules.{keeps_rules}
use Rattle.journal_check.specs.Judging.{Judging, nothing_judged, judging_within, all_judging}
use Rattle.journal_check.specs.Soundness.{AllHold, FailsFirst, sum_fault}
use Rattle.journal_check.specs.States.{OrderState}

-- ---- groups: a line or a sum ends the newest one

abbrev pub is_open : GroupedRecords → Bool
is_open r = has_any r.groups && not (has_any r.sums)

abbrev pub ends_groups : Record → Bool
ends_groups (records.Line number line) = true
ends_groups (records.Sum direction lcid submitted delivered state) = true
ends_groups one = false

-- the newest group ends with a record
abbrev pub ends_group : GroupedRecords → Record → Bool
ends_group r one = is_open r && ends_groups one

-- those that have ended
abbrev pub groups_ended : GroupedRecords → List Group
groups_ended r = if is_open r then drop 1 r.groups else r.groups

-- each line keeps the rules behind those before it
abbrev pub AreRuled : List Group → Type 0
AreRuled [] = Unit {0}
AreRuled (now ∷ past) = HasLayout now.line × (keeps_rules past now.line ≡ true) × AreRuled past

-- ---- what is kept

pub record CheckerState : Type 0 where
  pub order : OrderState
  pub judging : Judging
  -- how many `line` records there are
  pub lines : ℕ
  -- why no more is read
  pub fault : Option CheckFault

abbrev pub judging_in : Bool → List Group → Judging
judging_in runs [] = nothing_judged
judging_in true (now ∷ past) = judging_within now (all_judging past)
judging_in false (now ∷ past) = all_judging (now ∷ past)

-- of records none of which was refused
pub record HasFed (r : GroupedRecords) (c : CheckerState) : Type 0 where
  pub order : TellsRecords r c.order
  pub ruled : AreRuled r.groups
  pub judging : c.judging ≡ judging_in (is_open r) r.groups
  pub hold : AllHold (groups_ended r)
  pub lines : c.lines ≡ length r.groups
  pub fault : c.fault ≡ None

-- ---- the next text

abbrev pub GroupHolds : GroupedRecords → Record → Type 0
GroupHolds r one = ends_group r one ≡ true → AllHold r.groups

-- a record is refused where it stands, behind a group that is right
pub record IsOutOfPlace (r : GroupedRecords) (one : Record) (at : ℕ) (why : CheckWhy)
    : Type 0 where
  pub at_is : at ≡ record_count r + 1
  pub group : GroupHolds r one
  pub fault : (record_fault r one ≡ Some why)
      ⊎ ((record_fault r one ≡ None) × (sum_fault r.groups one ≡ Some why))

-- the group that a record ends isn't right: it is refused where its last record stands
pub record IsBehindFault (r : GroupedRecords) (one : Record) (at : ℕ) (why : CheckWhy)
    : Type 0 where
  pub at_is : at ≡ record_count r
  pub ends : ends_group r one ≡ true
  pub fails : FailsFirst r.groups why

pub record IsBadText (r : GroupedRecords) (text : List ℕ) (at : ℕ) (why : CheckWhy)
    : Type 0 where
  pub at_is : at ≡ record_count r + 1
  pub none : HasNoRecord (record_count r) text why

pub record IsBadRecord (r : GroupedRecords) (text : List ℕ) (at : ℕ) (why : CheckWhy)
    : Type 0 where
  pub one : Record
  pub few : record_count r < MOST_RECORDS
  pub text_is : IsTextOf text one
  pub refused : IsBehindFault r one at why ⊎ IsOutOfPlace r one at why

-- the text, or what it ends, is refused
abbrev pub IsRefusedAt : GroupedRecords → List ℕ → ℕ → CheckWhy → Type 0
IsRefusedAt r text at why = IsBadText r text at why ⊎ IsBadRecord r text at why

-- its record stands where it may
pub record IsTaken (r : GroupedRecords) (text : List ℕ) (one : Record) : Type 0 where
  pub few : record_count r < MOST_RECORDS
  pub text_is : IsTextOf text one
  pub group : GroupHolds r one
  pub place : record_fault r one ≡ None
  pub sum : sum_fault r.groups one ≡ None

pub record Takes (r : GroupedRecords) (text : List ℕ) (new : CheckerState) : Type 0 where
  pub one : Record
  pub taken : IsTaken r text one
  pub fed : HasFed (with_record one r) new

abbrev pub IsFaultOf : GroupedRecords → List ℕ → CheckFault → Type 0
IsFaultOf r text (Refused at why) = IsRefusedAt r text at why
IsFaultOf r text NoMemory = Unit {0}

-- and a fault is kept
abbrev pub Feeds : GroupedRecords → List ℕ → Result Unit CheckFault → CheckerState → Type 0
Feeds r text (Ok _) new = Takes r text new
Feeds r text (Err fault) new = IsFaultOf r text fault × (new.fault ≡ Some fault)

-- ---- the end

abbrev pub LastHolds : GroupedRecords → Type 0
LastHolds r = is_open r ≡ true → AllHold r.groups

-- the last group isn't right
pub record LastFails (r : GroupedRecords) (at : ℕ) (why : CheckWhy) : Type 0 where
  pub at_is : at ≡ record_count r
  pub runs : is_open r ≡ true
  pub fails : FailsFirst r.groups why

abbrev pub Closes : GroupedRecords → Result ℕ CheckFault → Type 0
Closes r (Ok lines) = (lines ≡ length r.groups) × LastHolds r
Closes r (Err (Refused at why)) = LastFails r at why
Closes r (Err NoMemory) = Unit {0}
