-- What the terminals of a cell leave in its journal (docs/formats/CELL.md).
use Rattle.std.specs.Prelude.{ℕ, ◌+◌, List, [], ◌∷◌, ◌++◌, Option, flat_map}
use Rattle.air_record.specs.declared.line.Line.{Line}
use Rattle.air_record.specs.declared.record.Record.{Record}
use Rattle.air_record.specs.Text.{texts_of as texts_of_records}
use Rattle.line_player.specs.Lines.{lines_ended}

-- a terminal, a line of its own script, or none at its end, and the records that this left
pub record Entry : Type 0 where
  pub user : ℕ
  pub line : Option Line
  pub records : List Record

-- a line behind the digit of a terminal and a space
abbrev pub labelled : ℕ → List ℕ → List ℕ
labelled user line = (48 + user) ∷ 32 ∷ (line ++ 10 ∷ [])

-- the lines of a text, each so
abbrev pub numbered : ℕ → List ℕ → List ℕ
numbered user text = flat_map (labelled user) (lines_ended text)

abbrev pub entry_text : Entry → List ℕ
entry_text entry = numbered entry.user (texts_of_records entry.records)

-- the text of a cell's journal
abbrev pub texts_of : List Entry → List ℕ
texts_of journal = flat_map entry_text journal
