-- The answers of a program that plays the lines of an input, with what it leaves in its streams
-- (docs/formats/JOURNAL.md). Each record of its journal has a text, and each rule a word.
use Rattle.std.specs.Prelude.{◌≡◌, ◌⊎◌, ℕ, Bool, true, List, [], ◌∷◌, ◌++◌, codes, flat_map}
use Rattle.std.specs.Fmt.{decimal}
use Rattle.l2_io.specs.Known.{before, after, IsFront, IsAtEnd, HasRisen}
use Rattle.air_text.specs.declared.fault.LineRefusal.TheVariants.{Word, Number, Range, Hex, Fields}
use Rattle.air_text.specs.declared.fault.LineRefusal.TheVariants.{Long}
use Rattle.line_player.specs.Journal.{Finished, Refused, Waiting, Played}
use Rattle.line_player.specs.Streams.{Output, Streams, HasFailed, RanShort, WritesFront}
use Rattle.line_player.specs.declared.ending.Ending.{Ending}
use Rattle.line_player.specs.declared.ending.Ending.TheVariants as endings
use Rattle.line_player.specs.declared.reason.Reason.{Reason}
use Rattle.line_player.specs.declared.reason.Reason.TheVariants as reasons
use Rattle.line_player.specs.declared.status.Status.{Status}
use Rattle.line_player.specs.declared.status.Status.TheVariants as statuses

-- the exit code of an answer
abbrev pub code_of : Status → ℕ
code_of statuses.Done = 0
code_of statuses.Usage = 2
code_of statuses.Refused = 3
code_of statuses.ReadFault = 4
code_of statuses.WriteFault = 5
code_of statuses.NoMemory = 7

abbrev pub reason_text : {R : Type 0} → (R → List ℕ) → Reason R → List ℕ
reason_text word_of (reasons.Line Word) = codes "word"
reason_text word_of (reasons.Line Number) = codes "number"
reason_text word_of (reasons.Line Range) = codes "range"
reason_text word_of (reasons.Line Hex) = codes "hex"
reason_text word_of (reasons.Line Fields) = codes "fields"
reason_text word_of (reasons.Line Long) = codes "long"
reason_text word_of (reasons.Rule rule) = word_of rule
reason_text word_of reasons.Lines = codes "lines"

-- the text of a refused line
abbrev pub refused_text : {R : Type 0} → (R → List ℕ) → ℕ → Reason R → List ℕ
refused_text word_of number reason =
    codes "line " ++ (decimal number ++ (codes ": " ++ (reason_text word_of reason ++ 10 ∷ [])))

abbrev pub read_fault_text : List ℕ
read_fault_text = codes "read fault" ++ 10 ∷ []

abbrev pub write_fault_text : List ℕ
write_fault_text = codes "write fault" ++ 10 ∷ []

abbrev pub no_memory_text : List ℕ
no_memory_text = codes "out of memory" ++ 10 ∷ []

-- a text was put to errs: all of it, or a front where errs failed, or nothing where it had no
-- memory
pub record Tells (text : List ℕ) (errs errs' : Output) : Type 0 where
  pub told : List ℕ
  pub errs_is : errs'.written ≡ after errs.written told
  pub cause : (told ≡ text) ⊎ (IsFront told text × HasFailed errs errs')
      ⊎ ((told ≡ []) × RanShort errs errs')

-- out has the journal
abbrev pub HasAll : {E R : Type 0} → (E → List ℕ) → Played E R → Output → Output → Type 0
HasAll text_of played out out' =
    out'.written ≡ after out.written (flat_map text_of played.journal)

-- out has a front of the journal
abbrev pub HasFront : {E R : Type 0} → (E → List ℕ) → Played E R → Output → Output → Type 0
HasFront text_of played out out' =
    WritesFront (flat_map text_of played.journal) out.written out'.written

-- a line was refused, and all before it was written
pub record IsRefused {E R : Type 0} (text_of : E → List ℕ) (played : Played E R)
    (out out' : Output) :
    Type 0 where
  pub number : ℕ
  pub reason : Reason R
  pub close : played.close ≡ Refused number reason
  pub journal : HasAll text_of played out out'

-- what out and errs hold, by the answer
abbrev pub Row : {E R : Type 0} → (E → List ℕ) → (R → List ℕ) → Played E R → Streams → Streams
    → Status → Type 0
Row text_of word_of played old new statuses.Done =
    (played.close ≡ Finished) × HasAll text_of played old.out new.out
    × (new.errs.written ≡ old.errs.written)
Row text_of word_of played old new statuses.Usage = ⊥
Row text_of word_of played old new statuses.Refused =
    (r : IsRefused text_of played old.out new.out)
    × (new.errs.written ≡ after old.errs.written (refused_text word_of r.number r.reason))
Row text_of word_of played old new statuses.ReadFault =
    (played.close ≡ Waiting) × HasAll text_of played old.out new.out
    × HasRisen old.source.faults new.source.faults × Tells read_fault_text old.errs new.errs
Row text_of word_of played old new statuses.WriteFault =
    (HasFront text_of played old.out new.out × HasFailed old.out new.out
    × Tells write_fault_text old.errs new.errs)
    ⊎ ((r : IsRefused text_of played old.out new.out)
    × WritesFront (refused_text word_of r.number r.reason) old.errs.written new.errs.written
    × HasFailed old.errs new.errs)
Row text_of word_of played old new statuses.NoMemory =
    HasFront text_of played old.out new.out × Tells no_memory_text old.errs new.errs

-- what was done with the octets that the source gave, by the journal that is made of octets
pub record Runs {E R : Type 0} (text_of : E → List ℕ) (word_of : R → List ℕ)
    (journal : Bool → List ℕ → Played E R) (old new : Streams) (status : Status) : Type 0 where
  pub given : List ℕ
  pub left_is : old.source.left ≡ before given new.source.left
  -- whether these were all
  pub whole : Bool
  pub end : whole ≡ true → IsAtEnd new.source.left
  pub row : Row text_of word_of (journal whole given) old new status

-- the words of the command line are none that the program knows
abbrev pub Refuses : List ℕ → Output → Output → Status → Type 0
Refuses usage errs errs' statuses.Usage = errs'.written ≡ after errs.written usage
Refuses usage errs errs' statuses.WriteFault =
    WritesFront usage errs.written errs'.written × HasFailed errs errs'
Refuses usage errs errs' statuses.NoMemory = Tells no_memory_text errs errs'
Refuses usage errs errs' status = ⊥

-- a refused line is told
abbrev pub TellsRefusal : {R : Type 0} → (R → List ℕ) → ℕ → Reason R → Output → Output → Status
    → Type 0
TellsRefusal word_of number reason errs errs' statuses.Refused =
    errs'.written ≡ after errs.written (refused_text word_of number reason)
TellsRefusal word_of number reason errs errs' statuses.WriteFault =
    WritesFront (refused_text word_of number reason) errs.written errs'.written
    × HasFailed errs errs'
TellsRefusal word_of number reason errs errs' statuses.NoMemory = Tells no_memory_text errs errs'
TellsRefusal word_of number reason errs errs' status = ⊥

-- an ending is told: the text of its cause, or none where all is done
abbrev pub TellsEnding : {R : Type 0} → (R → List ℕ) → Ending R → Output → Output → Status → Type 0
TellsEnding word_of endings.Done errs errs' status =
    (status ≡ statuses.Done) × (errs'.written ≡ errs.written)
TellsEnding word_of (endings.Refused number reason) errs errs' status =
    TellsRefusal word_of number reason errs errs' status
TellsEnding word_of endings.ReadFault errs errs' status =
    (status ≡ statuses.ReadFault) × Tells read_fault_text errs errs'
TellsEnding word_of endings.WriteFault errs errs' status =
    (status ≡ statuses.WriteFault) × Tells write_fault_text errs errs'
TellsEnding word_of endings.NoMemory errs errs' status =
    (status ≡ statuses.NoMemory) × Tells no_memory_text errs errs'
