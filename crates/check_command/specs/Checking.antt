-- What `l2 check` answers to a journal, whoever made it, and what it leaves in its streams
-- (docs/CHECKING.md). Its lines are taken one behind the other, as far as they are right; what may
-- be taken, and when a group is right, is said by `IsTaken` and `AllHold` of journal_check.
use Rattle.std.specs.Prelude.{◌≡◌, ◌⊎◌, ℕ, ◌<◌, ◌≤◌, nat_lt, Bool, true, false, if◌then◌else◌}
use Rattle.std.specs.Prelude.{List, [], ◌∷◌, ◌++◌, codes, length, map}
use Rattle.std.specs.Fmt.{decimal}
use Rattle.l2_io.specs.Feeds.{without_return}
use Rattle.l2_io.specs.Known.{before, after, IsAtEnd, HasRisen}
use Rattle.air_record.specs.declared.record.Record.{Record}
use Rattle.line_player.specs.Answers.{Tells, read_fault_text, write_fault_text, no_memory_text}
use Rattle.line_player.specs.Lines.{lines_ended, tail_of}
use Rattle.line_player.specs.Streams.{Streams, HasFailed, WritesFront}
use Rattle.line_player.specs.declared.status.Status.{Status}
use Rattle.line_player.specs.declared.status.Status.TheVariants as statuses
use Rattle.journal_check.specs.declared.fault.CheckWhy.{CheckWhy}
use Rattle.journal_check.specs.declared.fault.CheckWhy.TheVariants as words
use Rattle.journal_check.specs.declared.limits.TheConstants.{LONGEST_RECORD, MOST_RECORDS}
use Rattle.journal_check.specs.Checked.{IsTaken, IsRefusedAt, IsBadText, LastHolds, LastFails}
use Rattle.journal_check.specs.Grouped.{GroupedRecords, no_records, record_count, with_record}

-- ---- lines

-- the text of a line that a line feed ends: without a carriage return at its end; but a line too
-- long with it is left so, and then no record has its text
abbrev pub text_in : List ℕ → List ℕ
text_in raw = if nat_lt LONGEST_RECORD (length raw) then raw else without_return raw

abbrev pub texts_ended : List ℕ → List (List ℕ)
texts_ended octets = map text_in (lines_ended octets)

-- the last line needs no line feed, and then keeps a carriage return
abbrev pub last_text : List ℕ → List (List ℕ)
last_text [] = []
last_text (x ∷ xs) = (x ∷ xs) ∷ []

abbrev pub all_texts : List ℕ → List (List ℕ)
all_texts octets = texts_ended octets ++ last_text (tail_of octets)

-- lines are taken, each behind those before it
abbrev pub ReadsLines : GroupedRecords → List (List ℕ) → GroupedRecords → Type 0
ReadsLines r [] all = all ≡ r
ReadsLines r (text ∷ texts) all =
    (one : Record) × IsTaken r text one × ReadsLines (with_record one r) texts all

-- ---- what a journal is, by its octets: all there are, or those before a fault or a refusal

-- all its lines are taken, and its last group is right
pub record IsSound (whole : Bool) (octets : List ℕ) (lines : ℕ) : Type 0 where
  pub all : whole ≡ true
  pub records : GroupedRecords
  pub read : ReadsLines no_records (all_texts octets) records
  pub last : LastHolds records
  -- how many `line` records there are
  pub lines_are : lines ≡ length records.groups

-- a line is refused, and those before it are taken
pub record HasRefused (texts : List (List ℕ)) (at : ℕ) (why : CheckWhy) : Type 0 where
  pub taken : List (List ℕ)
  pub text : List ℕ
  pub behind : List (List ℕ)
  pub texts_are : texts ≡ taken ++ text ∷ behind
  pub records : GroupedRecords
  pub read : ReadsLines no_records taken records
  pub refused : IsRefusedAt records text at why

-- all lines are taken, and the last group isn't right
pub record HasFailedLast (octets : List ℕ) (at : ℕ) (why : CheckWhy) : Type 0 where
  pub records : GroupedRecords
  pub read : ReadsLines no_records (all_texts octets) records
  pub fails : LastFails records at why

-- a line that has begun so can't be taken, whatever follows: it is too long, or there are enough
abbrev pub IsHopeless : GroupedRecords → List ℕ → Type 0
IsHopeless r begun = (LONGEST_RECORD < length begun)
    ⊎ ((0 < length begun) × (MOST_RECORDS ≤ record_count r))

-- a line that has begun is refused, and those before it are taken
pub record HasRefusedBegun (octets : List ℕ) (at : ℕ) (why : CheckWhy) : Type 0 where
  pub records : GroupedRecords
  pub read : ReadsLines no_records (texts_ended octets) records
  pub hopeless : IsHopeless records (tail_of octets)
  pub refused : IsBadText records (tail_of octets) at why

-- what is refused, at which line, and why
abbrev pub IsUnsound : Bool → List ℕ → ℕ → CheckWhy → Type 0
IsUnsound true octets at why = HasRefused (all_texts octets) at why ⊎ HasFailedLast octets at why
IsUnsound false octets at why =
    HasRefused (texts_ended octets) at why ⊎ HasRefusedBegun octets at why

-- nothing is refused so far, and more is awaited
pub record IsUnfinished (octets : List ℕ) : Type 0 where
  pub records : GroupedRecords
  pub read : ReadsLines no_records (texts_ended octets) records
  pub hopeful : IsHopeless records (tail_of octets) → ⊥

-- ---- texts

abbrev pub why_text : CheckWhy → List ℕ
why_text words.Text = codes "text"
why_text words.Records = codes "records"
why_text words.Forged = codes "forged"
why_text words.Order = codes "order"
why_text words.Rules = codes "rules"
why_text words.Sent = codes "sent"
why_text words.Carried = codes "carried"
why_text words.Delivered = codes "delivered"
why_text words.Edge = codes "edge"
why_text words.Failure = codes "failure"
why_text words.Status = codes "status"
why_text words.Form = codes "form"

abbrev pub sound_text : ℕ → List ℕ
sound_text lines = codes "sound " ++ (decimal lines ++ 10 ∷ [])

abbrev pub unsound_text : ℕ → CheckWhy → List ℕ
unsound_text at why =
    codes "record " ++ (decimal at ++ (codes ": " ++ (why_text why ++ 10 ∷ [])))

-- ---- answers

-- it is sound, or not: with so many lines, or at a line and why
pub record SaysSound (whole : Bool) (octets : List ℕ) : Type 0 where
  pub lines : ℕ
  pub is : IsSound whole octets lines

pub record SaysUnsound (whole : Bool) (octets : List ℕ) : Type 0 where
  pub at : ℕ
  pub why : CheckWhy
  pub is : IsUnsound whole octets at why

-- nothing was put out
abbrev pub KeepsOut : Streams → Streams → Type 0
KeepsOut old new = new.out.written ≡ old.out.written

-- what out and errs hold, by the answer
abbrev pub Row : Bool → List ℕ → Streams → Streams → Status → Type 0
Row whole octets old new statuses.Done =
    (s : SaysSound whole octets) × (new.out.written ≡ after old.out.written (sound_text s.lines))
    × (new.errs.written ≡ old.errs.written)
Row whole octets old new statuses.Usage = ⊥
Row whole octets old new statuses.Refused =
    (u : SaysUnsound whole octets) × KeepsOut old new
    × (new.errs.written ≡ after old.errs.written (unsound_text u.at u.why))
Row whole octets old new statuses.ReadFault =
    IsUnfinished octets × KeepsOut old new × HasRisen old.source.faults new.source.faults
    × Tells read_fault_text old.errs new.errs
Row whole octets old new statuses.WriteFault =
    ((s : SaysSound whole octets)
    × WritesFront (sound_text s.lines) old.out.written new.out.written
    × HasFailed old.out new.out × Tells write_fault_text old.errs new.errs)
    ⊎ ((u : SaysUnsound whole octets) × KeepsOut old new
    × WritesFront (unsound_text u.at u.why) old.errs.written new.errs.written
    × HasFailed old.errs new.errs)
Row whole octets old new statuses.NoMemory =
    KeepsOut old new × Tells no_memory_text old.errs new.errs

-- what was done with the octets that the source gave
pub record Checks (old new : Streams) (status : Status) : Type 0 where
  pub given : List ℕ
  pub left_is : old.source.left ≡ before given new.source.left
  -- whether these were all
  pub whole : Bool
  pub end : whole ≡ true → IsAtEnd new.source.left
  pub row : Row whole given old new status
