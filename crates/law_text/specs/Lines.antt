-- The lines that some text says (docs/formats/SCRIPT.md).
use Rattle.std.specs.Prelude.{ℕ, List, Option, Some, Result, Ok}
use Rattle.air_record.specs.declared.line.Line.{Line}
use Rattle.air_record.specs.declared.line.Line.TheVariants as lines
use Rattle.air_text.specs.declared.fault.LineRefusal.{LineRefusal}
use Rattle.air_text.specs.Reading.{read_words}

abbrev pub line_in : Result (Option Line) LineRefusal → Line
line_in (Ok (Some line)) = line
line_in read = lines.End

-- the line that words say
unfoldable pub line_back : List (List ℕ) → Line
line_back words = line_in (read_words words)
