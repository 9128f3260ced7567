-- What the fields of a script stand for (docs/formats/SCRIPT.md).
use Rattle.std.specs.Prelude.{◌≡◌, ℕ, ◌+◌, ◌-◌, ◌<◌, ◌≤◌, List, [], ◌∷◌, ◌++◌, Option, None, Some}
use Rattle.air_record.specs.declared.line.Line.{Line}
use Rattle.air_record.specs.declared.line.Line.TheVariants.{End}
use Rattle.script_generator.specs.Draws.{next, drawn}
use Rattle.script_generator.specs.Script.{steps, ending, at_tti}
use Rattle.script_generator.specs.Lines.{harq_line, keys_line, am_line, um_line, sdu_lines}
use Rattle.script_generator.specs.Lines.{tti_line, steps_lines, ending_lines}
use Rattle.script_generator.specs.declared.lines.Part.{Part}
use Rattle.script_generator.specs.declared.lines.Part.TheVariants as parts

-- what is still to be made where so many steps are left, and nothing behind the end
abbrev pub to_come : Option ℕ → ℕ → ℕ → List ℕ
to_come None i x = []
to_come (Some n) i x = steps n i x ++ ending

-- the lines from step i on
abbrev pub from_step : ℕ → ℕ → List Line
from_step i x = steps_lines (2000 - i) i x ++ ending_lines

-- the lines from the TTI of step i on
abbrev pub from_tti : ℕ → ℕ → List Line
from_tti i x = tti_line x ∷ from_step (i + 1) (next (next x))

-- the lines from the SDU of step i on
abbrev pub from_sdu : ℕ → ℕ → List Line
from_sdu i x = sdu_lines (drawn 8 (next x)) i (next x) ++ from_tti i (at_tti x)

-- the lines from a part of step i on
abbrev pub lines_from : Part → ℕ → ℕ → List Line
lines_from parts.Harq i x = harq_line ∷ keys_line ∷ am_line ∷ um_line ∷ from_step i x
lines_from parts.Keys i x = keys_line ∷ am_line ∷ um_line ∷ from_step i x
lines_from parts.Am i x = am_line ∷ um_line ∷ from_step i x
lines_from parts.Um i x = um_line ∷ from_step i x
lines_from parts.Step i x = from_step i x
lines_from parts.Sdu i x = from_sdu i x
lines_from parts.Tti i x = from_tti i x
lines_from parts.End i x = End ∷ []
lines_from parts.Over i x = []

-- there are 2000 steps
abbrev pub IsStep : Part → ℕ → Type 0
IsStep parts.Sdu i = i < 2000
IsStep parts.Tti i = i < 2000
IsStep part i = i ≤ 2000

-- the lines that an answer gives
abbrev pub given : Option Line → List Line
given None = []
given (Some line) = line ∷ []

-- what an answer gave, and none only at the end
abbrev pub Gave : List Line → List Line → Option Line → Type 0
Gave old new None = old ≡ []
Gave old new (Some line) = old ≡ line ∷ new
