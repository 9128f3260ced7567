-- The fields of a cell's line in their ranges (docs/formats/CELL.md).
use Rattle.std.specs.Prelude.{ℕ, ◌≤◌, ◌<◌, IfSome}
use Rattle.air_text.specs.Ranges.{IsInRange}
use Rattle.cell_text.specs.declared.line.CellLine.{CellLine}
use Rattle.cell_text.specs.declared.line.CellLine.TheVariants as lines
use Rattle.cell_text.specs.declared.line.TheConstants.{GREATEST_TOTAL, MOST_USERS}

-- 1 to 8 terminals
pub record AreUsers (users : ℕ) : Type 0 where
  pub some : 1 ≤ users
  pub few : users ≤ MOST_USERS

-- the totals of a TTI
pub record AreTotals (upward downward : ℕ) : Type 0 where
  pub up : upward ≤ GREATEST_TOTAL
  pub down : downward ≤ GREATEST_TOTAL

abbrev pub IsInCell : CellLine → Type 0
IsInCell (lines.Cell users) = AreUsers users
IsInCell (lines.To user line) = (user < MOST_USERS) × IfSome line IsInRange
IsInCell (lines.Air user up down) = user < MOST_USERS
IsInCell (lines.Go up_total down_total) = AreTotals up_total down_total
IsInCell lines.End = Unit {0}
