-- What a text says as a line of a cell's input (docs/formats/CELL.md).
use Rattle.std.specs.Prelude.{ℕ, ◌==◌, ◌-◌, nat_lt, if◌then◌else◌, List, [], ◌∷◌, length}
use Rattle.std.specs.Prelude.{slice_index, codes, Option, None, Some, Result, Ok, Err}
use Rattle.std.specs.Str.{bytes_eq}
use Rattle.air_text.specs.declared.fault.LineRefusal.{LineRefusal}
use Rattle.air_text.specs.declared.fault.LineRefusal.TheVariants.{Word, Fields, Long}
use Rattle.air_text.specs.declared.limits.TheConstants.{LONGEST_LINE}
use Rattle.air_text.specs.Words.{◌>>=◌, words_of}
use Rattle.air_text.specs.Fields.{number_of, outcome_of}
use Rattle.air_text.specs.Reading.{read_of}
use Rattle.cell_text.specs.declared.line.CellLine.{CellLine}
use Rattle.cell_text.specs.declared.line.CellLine.TheVariants.{Cell, To, Air, Go, End}
use Rattle.cell_text.specs.declared.line.TheConstants.{GREATEST_TOTAL, MOST_USERS}

-- ---- the line of a terminal's own script

-- what stands behind the spaces at the beginning
abbrev pub without_spaces : List ℕ → List ℕ
without_spaces [] = []
without_spaces (x ∷ xs) = if x == 32 then without_spaces xs else x ∷ xs

-- what stands from the first space on
abbrev pub from_space : List ℕ → List ℕ
from_space [] = []
from_space (x ∷ xs) = if x == 32 then x ∷ xs else from_space xs

-- what stands behind the first word
abbrev pub behind_word : List ℕ → List ℕ
behind_word text = from_space (without_spaces text)

-- what stands in a `to` line behind the terminal's number
abbrev pub own_text : List ℕ → List ℕ
own_text text = behind_word (behind_word text)

-- ---- the lines

unfoldable pub cell_of : List (List ℕ) → Result CellLine LineRefusal
cell_of (users ∷ []) = do
  n ← number_of 1 MOST_USERS users
  Ok (Cell n)
cell_of fields = Err Fields

-- the own line is judged as a line by itself
unfoldable pub to_of : List (List ℕ) → List ℕ → Result CellLine LineRefusal
to_of [] own = Err Fields
to_of (user ∷ words) own = do
  n ← number_of 0 (MOST_USERS - 1) user
  line ← read_of own
  Ok (To n line)

unfoldable pub air_of : List (List ℕ) → Result CellLine LineRefusal
air_of (user ∷ up ∷ down ∷ []) = do
  n ← number_of 0 (MOST_USERS - 1) user
  uo ← outcome_of up
  dout ← outcome_of down
  Ok (Air n uo dout)
air_of fields = Err Fields

unfoldable pub go_of : List (List ℕ) → Result CellLine LineRefusal
go_of (up_total ∷ down_total ∷ []) = do
  ut ← number_of 0 GREATEST_TOTAL up_total
  dt ← number_of 0 GREATEST_TOTAL down_total
  Ok (Go ut dt)
go_of fields = Err Fields

unfoldable pub end_of : List (List ℕ) → Result CellLine LineRefusal
end_of [] = Ok End
end_of fields = Err Fields

abbrev pub cell_line_of : List ℕ → List (List ℕ) → List ℕ → Result CellLine LineRefusal
cell_line_of first fields own =
    if bytes_eq first (codes "cell") then cell_of fields
    else if bytes_eq first (codes "to") then to_of fields own
    else if bytes_eq first (codes "air") then air_of fields
    else if bytes_eq first (codes "go") then go_of fields
    else if bytes_eq first (codes "end") then end_of fields
    else Err Word

-- a line, or nothing where there is no word or a comment
unfoldable pub read_cell_words : List (List ℕ) → List ℕ → Result (Option CellLine) LineRefusal
read_cell_words [] own = Ok None
read_cell_words (first ∷ fields) own = if slice_index first 0 == 35 then Ok None
    else (cell_line_of first fields own >>= λ line. Ok (Some line))

-- a text of at most 20000 octets
unfoldable pub read_cell_of : List ℕ → Result (Option CellLine) LineRefusal
read_cell_of text =
    if nat_lt LONGEST_LINE (length text) then Err Long
    else read_cell_words (words_of text) (own_text text)
