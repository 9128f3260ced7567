-- Each terminal of a cell by itself (docs/formats/CELL.md): what it leaves in the cell's journal is
-- the journal that a run makes of its own script.
use Rattle.std.specs.Prelude.{◌≡◌, ℕ, ◌+◌, ◌==◌, ◌&&◌, Bool, true, false, if◌then◌else◌, List, []}
use Rattle.std.specs.Prelude.{◌∷◌, ◌++◌, drop, flat_map, slice_index, Option, None, Some}
use Rattle.air_record.specs.declared.line.Line.{Line}
use Rattle.air_record.specs.declared.record.Record.{Record}
use Rattle.air_record.specs.Text.{texts_of as texts_of_records}
use Rattle.line_player.specs.Lines.{lines_ended}
use Rattle.air_run.specs.Journal.{RunPlayed, RunClose, journal_of}
use Rattle.cell_run.specs.Cells.{CellPlayed, cell_of}
use Rattle.cell_run.specs.Entries.{Entry, texts_of}
use Rattle.cell_run.specs.declared.fault.CellRule.{CellRule}
use Rattle.line_player.specs.Journal.{Close, Finished, Refused, Waiting}
use Rattle.script_generator.specs.Lines.{SayAll}

-- ---- what a cell's journal has of a terminal

abbrev pub some_line : Option Line → List Line
some_line None = []
some_line (Some line) = line ∷ []

-- the lines of its own script: those that the cell's input gives it, and its TTIs
abbrev pub own_lines : ℕ → List Entry → List Line
own_lines user [] = []
own_lines user (e ∷ es) = if e.user == user then some_line e.line ++ own_lines user es
    else own_lines user es

-- its records
abbrev pub own_records : ℕ → List Entry → List Record
own_records user [] = []
own_records user (e ∷ es) = if e.user == user then e.records ++ own_records user es
    else own_records user es

-- ---- a run of its own script

-- the script is all there is where the cell's input ends, and else more may come
abbrev pub is_all : Close CellRule → Bool
is_all Finished = true
is_all (Refused number reason) = false
is_all Waiting = false

abbrev pub own_close : Close CellRule → RunClose
own_close Finished = Finished
own_close (Refused number reason) = Waiting
own_close Waiting = Waiting

abbrev pub own_played : ℕ → CellPlayed → RunPlayed
own_played user played =
    record { journal = own_records user played.journal; close = own_close played.close }

-- octets that say the lines of its own script are run to exactly its records
abbrev pub RunsAlone : ℕ → CellPlayed → Type 0
RunsAlone user played = (octets : List ℕ) → SayAll octets (own_lines user played.journal)
    → journal_of (is_all played.close) octets ≡ own_played user played

-- and there are such octets
abbrev pub HasScript : ℕ → CellPlayed → Type 0
HasScript user played = (octets : List ℕ) × SayAll octets (own_lines user played.journal)

-- ---- what is written of a terminal

-- a line begins with the digit of a terminal and a space
abbrev pub is_labelled : ℕ → List ℕ → Bool
is_labelled user line = slice_index line 0 == 48 + user && slice_index line 1 == 32

abbrev pub own_output_line : ℕ → List ℕ → List ℕ
own_output_line user line = if is_labelled user line then drop 2 line ++ 10 ∷ [] else []

-- the lines of an output that begin so, without these
abbrev pub own_output : ℕ → List ℕ → List ℕ
own_output user text = flat_map (own_output_line user) (lines_ended text)

-- ---- so it is of each terminal of each cell

-- they are the text of its records
abbrev pub AllAreWritten : Type 0
AllAreWritten =
    (whole : Bool) (octets : List ℕ) (user : ℕ)
    → own_output user (texts_of (cell_of whole octets).journal)
    ≡ texts_of_records (own_records user (cell_of whole octets).journal)

abbrev pub AllHaveScripts : Type 0
AllHaveScripts = (whole : Bool) (octets : List ℕ) (user : ℕ) → HasScript user (cell_of whole octets)

abbrev pub AllRunAlone : Type 0
AllRunAlone = (whole : Bool) (octets : List ℕ) (user : ℕ) → RunsAlone user (cell_of whole octets)
