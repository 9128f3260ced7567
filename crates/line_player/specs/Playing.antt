-- What playing the lines of an input does to its source and to its sink, in the words of both
-- (docs/formats/JOURNAL.md).
use Rattle.std.specs.Prelude.{ℕ, ◌+◌, Bool, List, ◌++◌, Option, Some}
use Rattle.l2_io.specs.Known.{HasRisen}
use Rattle.line_player.specs.Journal.{Player, Played, journal_from, finished}
use Rattle.line_player.specs.Plays.{HasPlayed, Turns, Plays, PlaysLines, PutsRest}
use Rattle.line_player.specs.Streams.{Input, Output, HasFailed}
use Rattle.line_player.specs.declared.ending.Ending.{Ending}
use Rattle.line_player.specs.declared.playing.TurnEnd.{TurnEnd}

-- a journal of the octets that the source gave was played
abbrev pub PlaysOn : {E R : Type 0} → (E → List ℕ) → (Bool → List ℕ → Played E R) → Input → Input
    → Output → Output → Ending R → Type 0
PlaysOn text_of journal given left out out' ending =
    HasPlayed text_of journal given.left left.left out.written out'.written
    (HasRisen given.faults left.faults) (HasFailed out out') ending

-- one line was read and played
abbrev pub TurnsOn : {S E R : Type 0} → (E → List ℕ) → Player S E R → S → ℕ → List ℕ → Input → Input
    → Output → Output → S → List ℕ → TurnEnd R → Type 0
TurnsOn text_of m state number kept given left out out' state' kept' result =
    Turns text_of m (λ whole octets. journal_from m whole state number (kept ++ octets))
    given.left left.left out.written out'.written (HasRisen given.faults left.faults)
    (HasFailed out out') (Some state') (number + 1) kept' result

-- the lines of an input were played, with so much of the output gathered
abbrev pub PlaysAll : {S E R : Type 0} → (E → List ℕ) → Player S E R → Input → Input → Output
    → Output → List ℕ → S → Option (Ending R) → Type 0
PlaysAll text_of m given left out out' held state' result =
    PlaysLines text_of m given.left left.left out.written out'.written
    (HasRisen given.faults left.faults) (HasFailed out out') held (Some state') result

-- what stands at the end was written, after what was gathered
abbrev pub EndsPlay : {S E R : Type 0} → (E → List ℕ) → Player S E R → S → List ℕ → Output → Output
    → Ending R → Type 0
EndsPlay {R = R} text_of m state gathered out out' result =
    (held : List ℕ) × (ending : Ending R)
    × Plays text_of (finished m state) (Some gathered) (Some held) ⊥ (HasRisen 0 0) ending
    × PutsRest ending held out.written out'.written (HasFailed out out') result
