-- The answers of `l2cell` (docs/formats/CELL.md).
use Rattle.std.specs.Prelude.{ℕ, Bool, List, [], ◌∷◌, ◌++◌, codes}
use Rattle.cell_run.specs.Cells.{CellPlayed}
use Rattle.cell_run.specs.Entries.{entry_text}
use Rattle.cell_run.specs.Rules.{rule_word}
use Rattle.line_player.specs.Answers.{Refuses as RefusesBy, Runs as RunsBy}
use Rattle.line_player.specs.Streams.{Output, Streams}
use Rattle.line_player.specs.declared.status.Status.{Status}

abbrev pub usage_text : List ℕ
usage_text = codes "usage: l2cell" ++ 10 ∷ []

-- what was done with the octets that the source gave, by the journal that is made of octets
abbrev pub Runs : (Bool → List ℕ → CellPlayed) → Streams → Streams → Status → Type 0
Runs journal old new status = RunsBy entry_text rule_word journal old new status

-- words stand behind the name of the program
abbrev pub Refuses : Output → Output → Status → Type 0
Refuses errs errs' status = RefusesBy usage_text errs errs' status
