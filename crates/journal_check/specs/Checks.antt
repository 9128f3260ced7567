-- What is answered to the next text of a journal (docs/laws/PROGRAM.md): the first that is true of
-- `records`, `text`, `forged`, `order` and `rules`.
use Rattle.std.specs.Prelude.{ℕ, ◌≡◌, ◌+◌, ◌<◌, ◌≤◌, List, length, None, Some}
use Rattle.std.specs.Prelude.{Result, Ok, Err, is_some, nat_lt, false}
use Rattle.std.specs.List.{list_all, list_any}
use Rattle.std.specs.Str.{bytes_eq}
use Rattle.air_record.specs.declared.record.Record.{Record}
use Rattle.air_text.specs.Groups.{Group}
use Rattle.promises.specs.Delivery.{is_forged, is_timed}
use Rattle.promises.specs.Keys.{all_keys}
use Rattle.promises.specs.Loops.{mode_in_force}
use Rattle.promises.specs.Sleeps.{is_drx_set}
use Rattle.test_loop.specs.Loops.{is_on}
use Rattle.journal_check.specs.declared.fault.CheckFault.{CheckFault}
use Rattle.journal_check.specs.declared.fault.CheckFault.TheVariants.{Refused, NoMemory}
use Rattle.journal_check.specs.declared.fault.CheckWhy.{CheckWhy}
use Rattle.journal_check.specs.declared.fault.CheckWhy.TheVariants.{Text, Records}
use Rattle.journal_check.specs.declared.limits.TheConstants.{LONGEST_RECORD, MOST_RECORDS}
use Rattle.journal_check.specs.Grouped.{GroupedRecords, record_count, with_record, has_any}
use Rattle.journal_check.specs.Grouped.{record_fault}
use Rattle.promises.specs.LineRules.{is_early, is_harq, is_bsr, is_keys, has_line, has_bearer}
use Rattle.journal_text.specs.Records.{HasText}
use Rattle.journal_check.specs.States.{LinesState, OrderState, is_set, is_given, is_above}

-- ---- a text

-- a record has the text, which isn't too long
pub record IsTextOf (text : List ℕ) (one : Record) : Type 0 where
  pub short : length text ≤ LONGEST_RECORD
  pub text_is : HasText text one

-- why there is no record behind so many
abbrev pub HasNoRecord : ℕ → List ℕ → CheckWhy → Type 0
HasNoRecord count text Records = MOST_RECORDS ≤ count
HasNoRecord count text Text = (count < MOST_RECORDS) × ((one : Record) → IsTextOf text one → ⊥)
HasNoRecord count text why = ⊥

-- the record of a text behind so many
abbrev pub ReadsNext : ℕ → List ℕ → Result Record CheckFault → Type 0
ReadsNext count text (Ok one) = (count < MOST_RECORDS) × IsTextOf text one
ReadsNext count text (Err (Refused at why)) = (at ≡ count + 1) × HasNoRecord count text why
ReadsNext count text (Err NoMemory) = Unit {0}

-- ---- what is kept, and the records that it is kept of

pub record TellsLines (past : List Group) (s : LinesState) : Type 0 where
  pub early : s.early ≡ is_early past
  pub visits : s.visits ≡ has_line is_harq past
  pub reports : s.reports ≡ has_line is_bsr past
  pub keyed : s.keyed ≡ has_line is_keys past
  pub listens : s.listens ≡ is_drx_set past
  pub looping : s.looping ≡ is_on (mode_in_force past)
  pub bearers : (lcid : ℕ) → is_set lcid s.bearers ≡ has_bearer lcid past
  pub timers : (lcid : ℕ) → is_set lcid s.timers ≡ is_timed lcid past
  pub places : (length s.bearers ≡ 256) × (length s.timers ≡ 256)
  pub given : (key : List ℕ) → is_given key s.given ≡ list_any (bytes_eq key) (all_keys past)
  pub unforged : is_forged past ≡ false

pub record TellsRecords (r : GroupedRecords) (o : OrderState) : Type 0 where
  pub count : o.count ≡ record_count r
  pub numbers : (number : ℕ)
      → list_all (λ g. nat_lt g.number number) r.groups ≡ is_above number o.last
  pub begun : is_some o.last ≡ has_any r.groups
  pub ended : o.ended ≡ has_any r.sums
  pub lines : TellsLines r.groups o.lines

-- ---- the next record

-- a record that may stand behind others is kept, with what tells of all; another is refused
abbrev pub AdmitsNext : GroupedRecords → Record → Result Unit CheckFault → OrderState → Type 0
AdmitsNext r one (Ok _) new = (record_fault r one ≡ None) × TellsRecords (with_record one r) new
AdmitsNext r one (Err (Refused at why)) new =
    (at ≡ record_count r + 1) × (record_fault r one ≡ Some why)
AdmitsNext r one (Err NoMemory) new = Unit {0}
