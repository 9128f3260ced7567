-- The journal of an input, of which more may come (docs/formats/JOURNAL.md): read line by line,
-- played, and refused where a line is. What a line does and leaves is its player's affair.
use Rattle.std.specs.Prelude.{ℕ, ◌+◌, ◌==◌, nat_lt, Bool, true, false, if◌then◌else◌, List, [], ◌∷◌}
use Rattle.std.specs.Prelude.{◌++◌, length}
use Rattle.l2_io.specs.Feeds.{without_return}
use Rattle.air_text.specs.declared.fault.LineRefusal.TheVariants.{Long}
use Rattle.air_text.specs.declared.limits.TheConstants.{LONGEST_LINE, MOST_LINES}
use Rattle.line_player.specs.Lines.{lines_ended, tail_of}
use Rattle.line_player.specs.declared.reason.Reason.{Reason}
use Rattle.line_player.specs.declared.reason.Reason.TheVariants as reasons

-- what a text does as a line to a state: it goes on, or ends the input, or is refused
pub data Outcome (S E R : Type 0) : Type 0 where
  Goes : S → List E → Outcome S E R
  Ends : S → List E → Outcome S E R
  Refuses : Reason R → Outcome S E R

-- what plays lines: where it begins, what a text does as the line of a number, and the records at
-- the end
pub record Player (S E R : Type 0) : Type 0 where
  pub first : S
  pub line : S → ℕ → List ℕ → Outcome S E R
  pub last : S → List E

-- why a journal ends
pub data Close (R : Type 0) : Type 0 where
  Finished : Close R
  Refused : ℕ → Reason R → Close R
  -- more is awaited
  Waiting : Close R

pub record Played (E R : Type 0) : Type 0 where
  pub journal : List E
  pub close : Close R

abbrev pub onto : {E R : Type 0} → List E → Played E R → Played E R
onto journal later = record { journal = journal ++ later.journal; close = later.close }

abbrev pub finished : {S E R : Type 0} → Player S E R → S → Played E R
finished p s = record { journal = p.last s; close = Finished }

abbrev pub refused : {E R : Type 0} → ℕ → Reason R → Played E R
refused number reason = record { journal = []; close = Refused number reason }

abbrev pub waiting : {E R : Type 0} → Played E R
waiting = record { journal = []; close = Waiting }

abbrev pub follow : {S E R : Type 0} → Player S E R → ℕ → Outcome S E R → (S → Played E R)
    → Played E R
follow p number (Goes t journal) next = onto journal (next t)
follow p number (Ends t journal) next = onto journal (finished p t)
follow p number (Refuses reason) next = refused number reason

-- a line, and what comes after it: at most 1000000 lines of at most 20000 octets
unfoldable pub on_line : {S E R : Type 0} → Player S E R → S → ℕ → List ℕ → (S → Played E R)
    → Played E R
on_line p s number raw next =
    if nat_lt MOST_LINES number then refused number reasons.Lines
    else if nat_lt LONGEST_LINE (length raw) then refused number (reasons.Line Long)
    else follow p number (p.line s number (without_return raw)) next

-- the last line, which no line feed ends: a carriage return at its end stays
unfoldable pub on_last : {S E R : Type 0} → Player S E R → S → ℕ → List ℕ → Played E R
on_last p s number raw =
    if nat_lt MOST_LINES number then refused number reasons.Lines
    else if nat_lt LONGEST_LINE (length raw) then refused number (reasons.Line Long)
    else follow p number (p.line s number raw) (finished p)

-- what is behind the last line feed, where it is a line or the beginning of one
unfoldable pub close_by : {S E R : Type 0} → Player S E R → Bool → List ℕ → S → ℕ → Played E R
close_by p true tail s number = if length tail == 0 then finished p s else on_last p s number tail
close_by p false tail s number =
    if length tail == 0 then waiting
    else if nat_lt MOST_LINES number then refused number reasons.Lines
    else if nat_lt LONGEST_LINE (length tail) then refused number (reasons.Line Long)
    else waiting

unfoldable pub play : {S E R : Type 0} → Player S E R → (S → ℕ → Played E R) → S → ℕ
    → List (List ℕ) → Played E R
play p close s number [] = close s number
play p close s number (raw ∷ lines) =
    on_line p s number raw (λ t. play p close t (number + 1) lines)

-- the journal from a state on, of octets that are all there are, or of which more may come
unfoldable pub journal_from : {S E R : Type 0} → Player S E R → Bool → S → ℕ → List ℕ
    → Played E R
journal_from p whole s number octets =
    play p (close_by p whole (tail_of octets)) s number (lines_ended octets)

-- the journal that a player makes of an input
abbrev pub journal_by : {S E R : Type 0} → Player S E R → Bool → List ℕ → Played E R
journal_by p whole octets = journal_from p whole p.first 1 octets
