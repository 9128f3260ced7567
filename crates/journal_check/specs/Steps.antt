-- How the checker's state changes with a record, step by step (docs/CHECKING.md).
use Rattle.std.specs.Prelude.{ℕ, ◌≡◌, ◌⊎◌, ◌+◌, Bool, true, false, not, ◌&&◌, Option, None, Some}
use Rattle.std.specs.Prelude.{if◌then◌else◌, List, Result, Ok, Err}
use Rattle.mac_pdu.specs.declared.item.Direction.{Direction}
use Rattle.air_record.specs.declared.record.Record.{Record}
use Rattle.air_record.specs.declared.record.Record.TheVariants as records
use Rattle.air_record.specs.declared.record.State.{State}
use Rattle.journal_edge.specs.EdgeChecking.{is_state}
use Rattle.journal_form.specs.Lines.{HasLayout}
use Rattle.journal_check.specs.declared.fault.CheckFault.{CheckFault}
use Rattle.journal_check.specs.declared.fault.CheckFault.TheVariants.{Refused, NoMemory}
use Rattle.journal_check.specs.declared.fault.CheckWhy.{CheckWhy}
use Rattle.journal_check.specs.declared.fault.CheckWhy.TheVariants.{Sent, Edge}
use Rattle.journal_check.specs.Grouped.{GroupedRecords, with_record, record_fault}
use Rattle.journal_check.specs.Judging.{Judging, judging_line, judging_record, judging_end, word_of}
use Rattle.journal_check.specs.Soundness.{sum_fault}
use Rattle.journal_check.specs.States.{OrderState, is_running, is_set}
use Rattle.journal_check.specs.Checked.{CheckerState, HasFed, GroupHolds, IsBehindFault}
use Rattle.journal_check.specs.Checked.{IsOutOfPlace, IsFaultOf, Takes, ends_groups}

-- what is found at a record
abbrev pub Finds : ℕ → Option CheckWhy → Result Unit CheckFault → Type 0
Finds at found (Ok _) = found ≡ None
Finds at found (Err (Refused line why)) = (line ≡ at) × (found ≡ Some why)
Finds at found (Err NoMemory) = Unit {0}

-- ---- the end of the newest group

abbrev pub is_ended_by : OrderState → Record → Bool
is_ended_by o one = is_running o && ends_groups one

abbrev pub ended_if : Bool → Judging → Judging
ended_if true j = judging_end j
ended_if false j = j

abbrev pub word_if : Bool → Judging → Option CheckWhy
word_if true j = word_of (judging_end j)
word_if false j = None

abbrev pub with_judging : Judging → CheckerState → CheckerState
with_judging j c = record c { judging = j }

-- ---- a record that may stand there

abbrev pub HasRecordLayout : Record → Type 0
HasRecordLayout (records.Line number line) = HasLayout line
HasRecordLayout one = Unit {0}

abbrev pub with_told : Record → CheckerState → CheckerState
with_told (records.Line number line) c =
    record c { judging = judging_line line c.judging; lines = c.lines + 1 }
with_told (records.Sum direction lcid submitted delivered state) c = c
with_told one c = with_judging (judging_record one c.judging) c

-- what isn't right of a sum
abbrev pub state_word : Direction → ℕ → State → CheckerState → Option CheckWhy
state_word direction lcid state c =
    if not (is_set lcid c.order.lines.bearers) then Some Sent
    else if is_state direction lcid state c.judging.sends.given.kept then None
    else Some Edge

abbrev pub sum_word : Record → CheckerState → Option CheckWhy
sum_word (records.Sum direction lcid submitted delivered state) c =
    state_word direction lcid state c
sum_word one c = None

-- ---- a record, and a text

pub record IsStanding (r : GroupedRecords) (one : Record) (new : CheckerState) : Type 0 where
  pub group : GroupHolds r one
  pub place : record_fault r one ≡ None
  pub sum : sum_fault r.groups one ≡ None
  pub fed : HasFed (with_record one r) new

abbrev pub Stands : GroupedRecords → Record → Result Unit CheckFault → CheckerState → Type 0
Stands r one (Ok _) new = IsStanding r one new
Stands r one (Err (Refused at why)) new = IsBehindFault r one at why ⊎ IsOutOfPlace r one at why
Stands r one (Err NoMemory) new = Unit {0}

abbrev pub TakesText : GroupedRecords → List ℕ → Result Unit CheckFault → CheckerState → Type 0
TakesText r text (Ok _) new = Takes r text new
TakesText r text (Err fault) new = IsFaultOf r text fault
