-- What reading and judging a journal leaves, call by call (docs/CHECKING.md).
use Rattle.std.specs.Prelude.{◌≡◌, ℕ, ◌+◌, ◌≤◌, nat_lt, Bool, true, if◌then◌else◌, List}
use Rattle.std.specs.Prelude.{◌++◌, Option, None, Some}
use Rattle.l2_io.specs.Known.{before, after, IsAtEnd, HasRisen}
use Rattle.line_player.specs.Answers.{Tells, read_fault_text, write_fault_text, no_memory_text}
use Rattle.line_player.specs.Lines.{tail_of}
use Rattle.line_player.specs.Streams.{Input, Output, HasFailed, WritesFront}
use Rattle.line_player.specs.declared.status.Status.{Status}
use Rattle.line_player.specs.declared.status.Status.TheVariants as statuses
use Rattle.journal_check.specs.declared.fault.CheckFault.{CheckFault}
use Rattle.journal_check.specs.declared.fault.CheckFault.TheVariants.{Refused, NoMemory}
use Rattle.journal_check.specs.declared.fault.CheckWhy.{CheckWhy}
use Rattle.journal_check.specs.declared.fault.CheckWhy.TheVariants as words
use Rattle.journal_check.specs.declared.limits.TheConstants.{MOST_RECORDS}
use Rattle.journal_check.specs.Checked.{CheckerState, HasFed}
use Rattle.journal_check.specs.Grouped.{GroupedRecords, no_records, record_count}
use Rattle.check_command.specs.Checking.{texts_ended, all_texts, ReadsLines, IsSound, IsUnsound}
use Rattle.check_command.specs.Checking.{IsUnfinished, sound_text, unsound_text}
use Rattle.check_command.specs.declared.judging.TurnEnd.{TurnEnd}
use Rattle.check_command.specs.declared.judging.TurnEnd.TheVariants as turns
use Rattle.check_command.specs.declared.verdict.Verdict.{Verdict}
use Rattle.check_command.specs.declared.verdict.Verdict.TheVariants as verdicts

-- ---- reading

abbrev pub verdict_by : CheckFault → Verdict
verdict_by (Refused at why) = verdicts.Unsound at why
verdict_by NoMemory = verdicts.NoMemory

-- a line of a number is too long
abbrev pub long_verdict : ℕ → Verdict
long_verdict number = if nat_lt MOST_RECORDS number then verdicts.Unsound number words.Records
    else verdicts.Unsound number words.Text

-- what a verdict says of octets
abbrev pub Says : Bool → List ℕ → Type 0 → Verdict → Type 0
Says whole octets fault (verdicts.Sound lines) = IsSound whole octets lines
Says whole octets fault (verdicts.Unsound at why) = IsUnsound whole octets at why
Says whole octets fault verdicts.ReadFault = IsUnfinished octets × fault
Says whole octets fault verdicts.NoMemory = Unit {0}

-- the octets that the source gave were judged
pub record Judges (first new : Input) (verdict : Verdict) : Type 0 where
  pub given : List ℕ
  pub left_is : first.left ≡ before given new.left
  pub whole : Bool
  pub end : whole ≡ true → IsAtEnd new.left
  pub says : Says whole given (HasRisen first.faults new.faults) verdict

-- lines were taken, and behind them some octets are kept, whatever follows
pub record HasTaken (first now : Input) (kept : List ℕ) (c : CheckerState) (number : ℕ)
    : Type 0 where
  pub given : List ℕ
  pub left_is : first.left ≡ before given now.left
  pub taken : List (List ℕ)
  pub records : GroupedRecords
  pub read : ReadsLines no_records taken records
  pub fed : HasFed records c
  pub few : record_count records ≤ MOST_RECORDS
  pub number_is : number ≡ record_count records + 1
  pub texts : (more : List ℕ) → texts_ended (given ++ more) ≡ taken ++ texts_ended (kept ++ more)
  pub tail : (more : List ℕ) → tail_of (given ++ more) ≡ tail_of (kept ++ more)
  pub count : first.faults ≤ now.faults

-- all lines were taken
pub record HasTakenAll (first new : Input) (c : CheckerState) : Type 0 where
  pub given : List ℕ
  pub left_is : first.left ≡ before given new.left
  pub end : IsAtEnd new.left
  pub records : GroupedRecords
  pub read : ReadsLines no_records (all_texts given) records
  pub fed : HasFed records c

-- what a turn leaves
abbrev pub Leaves : Input → Input → List ℕ → CheckerState → ℕ → TurnEnd → Type 0
Leaves first new kept c number turns.Next = HasTaken first new kept c number
Leaves first new kept c number turns.Over = HasTakenAll first new c
Leaves first new kept c number (turns.Stop verdict) = Judges first new verdict

-- what the lines of a journal leave: all were taken, or the reading stopped with a verdict
abbrev pub ReadsAll : Input → Input → CheckerState → Option Verdict → Type 0
ReadsAll first new c None = HasTakenAll first new c
ReadsAll first new c (Some verdict) = Judges first new verdict

-- ---- telling

abbrev pub TellsSound : ℕ → Output → Output → Output → Output → Status → Type 0
TellsSound lines out out' errs errs' statuses.Done =
    (out'.written ≡ after out.written (sound_text lines)) × (errs'.written ≡ errs.written)
TellsSound lines out out' errs errs' statuses.WriteFault =
    WritesFront (sound_text lines) out.written out'.written × HasFailed out out'
    × Tells write_fault_text errs errs'
TellsSound lines out out' errs errs' statuses.NoMemory =
    (out'.written ≡ out.written) × Tells no_memory_text errs errs'
TellsSound lines out out' errs errs' status = ⊥

abbrev pub TellsUnsound : ℕ → CheckWhy → Output → Output → Status → Type 0
TellsUnsound at why errs errs' statuses.Refused =
    errs'.written ≡ after errs.written (unsound_text at why)
TellsUnsound at why errs errs' statuses.WriteFault =
    WritesFront (unsound_text at why) errs.written errs'.written × HasFailed errs errs'
TellsUnsound at why errs errs' statuses.NoMemory = Tells no_memory_text errs errs'
TellsUnsound at why errs errs' status = ⊥

abbrev pub TellsVerdict : Verdict → Output → Output → Output → Output → Status → Type 0
TellsVerdict (verdicts.Sound lines) out out' errs errs' status =
    TellsSound lines out out' errs errs' status
TellsVerdict (verdicts.Unsound at why) out out' errs errs' status =
    (out'.written ≡ out.written) × TellsUnsound at why errs errs' status
TellsVerdict verdicts.ReadFault out out' errs errs' status =
    (status ≡ statuses.ReadFault) × (out'.written ≡ out.written) × Tells read_fault_text errs errs'
TellsVerdict verdicts.NoMemory out out' errs errs' status =
    (status ≡ statuses.NoMemory) × (out'.written ≡ out.written) × Tells no_memory_text errs errs'
