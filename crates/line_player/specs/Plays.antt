-- What a call leaves in the sink, by its answer (docs/formats/JOURNAL.md). Each record has a text.
use Rattle.std.specs.Prelude.{◌≡◌, ◌⊎◌, ℕ, Bool, true, List, [], Option, None, Some, Result, Ok}
use Rattle.std.specs.Prelude.{Err, ◌++◌, flat_map}
use Rattle.l2_io.specs.Known.{before, after, IsAtEnd}
use Rattle.l2_io.specs.declared.sink.PutFault.{PutFault}
use Rattle.l2_io.specs.declared.sink.PutFault.TheVariants.{Failed, NoMemory}
use Rattle.line_player.specs.Streams.{WritesFront}
use Rattle.line_player.specs.Journal.{Player, Outcome, Goes, Ends, Refuses, Finished, Refused}
use Rattle.line_player.specs.Journal.{Waiting}
use Rattle.line_player.specs.Journal.{Played, onto, finished, journal_from, journal_by}
use Rattle.line_player.specs.declared.player.LineEnd.{LineEnd}
use Rattle.line_player.specs.declared.player.LineEnd.TheVariants as ends
use Rattle.line_player.specs.declared.playing.TurnEnd.{TurnEnd}
use Rattle.line_player.specs.declared.playing.TurnEnd.TheVariants as turns
use Rattle.line_player.specs.declared.ending.Ending.{Ending}
use Rattle.line_player.specs.declared.ending.Ending.TheVariants as endings

-- the state of a run, while there is one
abbrev pub state_of : {S E R : Type 0} → Player S E R → Option S → S
state_of m None = m.first
state_of m (Some s) = s

abbrev pub HasGone : {S E R : Type 0} → (E → List ℕ) → Outcome S E R → Option S → Option (List ℕ)
    → Option (List ℕ) → Type 0
HasGone text_of (Goes t journal) new written written' = (new ≡ Some t)
    × (written' ≡ after written (flat_map text_of journal))
HasGone text_of (Ends t journal) new written written' = ⊥
HasGone text_of (Refuses reason) new written written' = ⊥

abbrev pub HasEnded : {S E R : Type 0} → (E → List ℕ) → Outcome S E R → Option S → Option (List ℕ)
    → Option (List ℕ) → Type 0
HasEnded text_of (Goes t journal) new written written' = ⊥
HasEnded text_of (Ends t journal) new written written' = (new ≡ Some t)
    × (written' ≡ after written (flat_map text_of journal))
HasEnded text_of (Refuses reason) new written written' = ⊥

abbrev pub HasPart : {S E R : Type 0} → (E → List ℕ) → Outcome S E R → Option (List ℕ)
    → Option (List ℕ) → Type 0
HasPart text_of (Goes t journal) written written' =
    WritesFront (flat_map text_of journal) written written'
HasPart text_of (Ends t journal) written written' =
    WritesFront (flat_map text_of journal) written written'
HasPart text_of (Refuses reason) written written' = written' ≡ written

abbrev pub RunsLine : {S E R : Type 0} → (E → List ℕ) → Outcome S E R → Option S → Option (List ℕ)
    → Option (List ℕ) → Type 0 → LineEnd R → Type 0
RunsLine text_of line new written written' fault ends.Next =
    HasGone text_of line new written written'
RunsLine text_of line new written written' fault ends.Ended =
    HasEnded text_of line new written written'
RunsLine text_of line new written written' fault (ends.Refused reason) =
    (line ≡ Refuses reason) × (written' ≡ written)
RunsLine text_of line new written written' fault ends.WriteFault =
    fault × HasPart text_of line written written'
RunsLine text_of line new written written' fault ends.NoMemory =
    HasPart text_of line written written'

-- what is written where a journal was to be played, by the answer
abbrev pub Plays : {E R : Type 0} → (E → List ℕ) → Played E R → Option (List ℕ) → Option (List ℕ)
    → Type 0 → Type 0 → Ending R → Type 0
Plays text_of played written written' in_fault out_fault endings.Done =
    (played.close ≡ Finished) × (written' ≡ after written (flat_map text_of played.journal))
Plays text_of played written written' in_fault out_fault (endings.Refused number reason) =
    (played.close ≡ Refused number reason) ×
    (written' ≡ after written (flat_map text_of played.journal))
Plays text_of played written written' in_fault out_fault endings.ReadFault =
    (played.close ≡ Waiting) × (written' ≡ after written (flat_map text_of played.journal))
    × in_fault
Plays text_of played written written' in_fault out_fault endings.WriteFault =
    WritesFront (flat_map text_of played.journal) written written' × out_fault
Plays text_of played written written' in_fault out_fault endings.NoMemory =
    WritesFront (flat_map text_of played.journal) written written'

-- a journal of the octets that a source gave was played
pub record HasPlayed {E R : Type 0} (text_of : E → List ℕ) (journal : Bool → List ℕ → Played E R)
    (left left' written written' : Option (List ℕ)) (in_fault out_fault : Type 0)
    (ending : Ending R) : Type 0 where
  pub given : List ℕ
  pub left_is : left ≡ before given left'
  -- whether these are all
  pub whole : Bool
  pub end : whole ≡ true → IsAtEnd left'
  pub plays : Plays text_of (journal whole given) written written' in_fault out_fault ending

-- a part of a journal was played, whatever octets follow
pub record GoesOn {S E R : Type 0} (text_of : E → List ℕ) (m : Player S E R)
    (journal : Bool → List ℕ → Played E R) (left left' written written' : Option (List ℕ))
    (run : Option S) (number : ℕ) (kept : List ℕ) : Type 0 where
  pub given : List ℕ
  pub left_is : left ≡ before given left'
  pub part : List E
  pub written_is : written' ≡ after written (flat_map text_of part)
  pub state : S
  pub run_is : run ≡ Some state
  pub rest : (whole : Bool) (more : List ℕ)
      → journal whole (given ++ more)
      ≡ onto part (journal_from m whole state number (kept ++ more))

-- all lines were played
pub record IsOver {S E R : Type 0} (text_of : E → List ℕ) (m : Player S E R)
    (journal : Bool → List ℕ → Played E R) (left left' written written' : Option (List ℕ))
    (run : Option S) : Type 0 where
  pub given : List ℕ
  pub left_is : left ≡ before given left'
  pub whole : Bool
  pub end : whole ≡ true → IsAtEnd left'
  pub part : List E
  pub written_is : written' ≡ after written (flat_map text_of part)
  pub state : S
  pub run_is : run ≡ Some state
  pub rest : journal whole given ≡ onto part (finished m state)

-- what a turn leaves
abbrev pub Turns : {S E R : Type 0} → (E → List ℕ) → Player S E R → (Bool → List ℕ → Played E R)
    → Option (List ℕ) → Option (List ℕ) → Option (List ℕ) → Option (List ℕ) → Type 0 → Type 0
    → Option S → ℕ → List ℕ → TurnEnd R → Type 0
Turns text_of m journal left left' written written' in_fault out_fault run number kept turns.Next =
    GoesOn text_of m journal left left' written written' run number kept
Turns text_of m journal left left' written written' in_fault out_fault run number kept turns.Over =
    IsOver text_of m journal left left' written written' run
Turns text_of m journal left left' written written' in_fault out_fault run number kept
    (turns.Stop ending) =
    HasPlayed text_of journal left left' written written' in_fault out_fault ending

-- a part of a journal was played: a front of it is written, and the rest of it is gathered
pub record HasGathered {S E R : Type 0} (text_of : E → List ℕ) (m : Player S E R)
    (journal : Bool → List ℕ → Played E R) (left left' written written' : Option (List ℕ))
    (held : List ℕ) (run : Option S)
    (number : ℕ) (kept : List ℕ) : Type 0 where
  pub done : List ℕ
  pub written_is : written' ≡ after written done
  pub goes : GoesOn text_of m journal left left' (Some []) (Some (done ++ held)) run number kept

-- all lines were played: a front of what they write is written, and the rest of it is gathered
pub record IsGathered {S E R : Type 0} (text_of : E → List ℕ) (m : Player S E R)
    (journal : Bool → List ℕ → Played E R) (left left' written written' : Option (List ℕ))
    (held : List ℕ) (run : Option S) :
    Type 0 where
  pub done : List ℕ
  pub written_is : written' ≡ after written done
  pub over : IsOver text_of m journal left left' (Some []) (Some (done ++ held)) run

-- what the lines of an input leave: all were played, or the reading stopped with an ending
abbrev pub PlaysLines : {S E R : Type 0} → (E → List ℕ) → Player S E R → Option (List ℕ)
    → Option (List ℕ) → Option (List ℕ) → Option (List ℕ) → Type 0 → Type 0 → List ℕ → Option S
    → Option (Ending R) → Type 0
PlaysLines text_of m left left' written written' in_fault out_fault held run None =
    IsGathered text_of m (journal_by m) left left' written written' held run
PlaysLines text_of m left left' written written' in_fault out_fault held run (Some ending) =
    HasPlayed text_of (journal_by m) left left' written written' in_fault out_fault ending

-- a front of what is gathered was put, before the next line is read
abbrev pub PutsSome : List ℕ → List ℕ → Option (List ℕ) → Option (List ℕ) → Type 0
    → Result Unit PutFault → Type 0
PutsSome held held' written written' fault (Ok _) = (front : List ℕ) × (held ≡ front ++ held')
    × (written' ≡ after written front)
PutsSome held held' written written' fault (Err Failed) = WritesFront held written written' × fault
PutsSome held held' written written' fault (Err NoMemory) = WritesFront held written written'

-- what is gathered at the end was put, or a front of it
abbrev pub PutsRest : {R : Type 0} → Ending R → List ℕ → Option (List ℕ) → Option (List ℕ) → Type 0
    → Ending R → Type 0
PutsRest ending held written written' fault result =
    ((result ≡ ending) × (written' ≡ after written held))
    ⊎ ((result ≡ endings.WriteFault) × WritesFront held written written' × fault)
    ⊎ ((result ≡ endings.NoMemory) × WritesFront held written written')
