-- What is promised of each terminal of a cell (docs/formats/CELL.md).
use Rattle.std.specs.Prelude.{ℕ, Bool, List}
use Rattle.cell_run.specs.Alone.{own_lines, own_played, is_all}
use Rattle.cell_run.specs.Cells.{cell_of}
use Rattle.law_run.specs.Promises.{IsPromised}
use Rattle.script_generator.specs.Lines.{SayAll}

-- what a terminal leaves in a cell's journal is as promised of the journal of each script that says
-- the lines of its own
abbrev pub EveryTerminal : Type 0
EveryTerminal =
    (whole : Bool) (octets : List ℕ) (user : ℕ) (script : List ℕ)
    → SayAll script (own_lines user (cell_of whole octets).journal)
    → IsPromised (is_all (cell_of whole octets).close) script
    (own_played user (cell_of whole octets))
