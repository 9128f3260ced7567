-- The words of what a line of a cell's input breaks (docs/formats/CELL.md).
use Rattle.std.specs.Prelude.{ℕ, List, codes}
use Rattle.air_run.specs.Refusals.{refusal_word}
use Rattle.cell_run.specs.declared.fault.CellRule.{CellRule}
use Rattle.cell_run.specs.declared.fault.CellRule.TheVariants as rules
use Rattle.cell_run.specs.declared.fault.CellRefusal.TheVariants.{NoCell, CellTwice, UnknownUser}
use Rattle.cell_run.specs.declared.fault.CellRefusal.TheVariants.{NotHere}

abbrev pub rule_word : CellRule → List ℕ
rule_word (rules.Cell NoCell) = codes "no cell"
rule_word (rules.Cell CellTwice) = codes "cell twice"
rule_word (rules.Cell UnknownUser) = codes "unknown user"
rule_word (rules.Cell NotHere) = codes "not here"
rule_word (rules.Run refusal) = refusal_word refusal
