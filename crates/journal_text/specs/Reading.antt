-- The record that a text says (docs/formats/JOURNAL.md).
use Rattle.std.specs.Prelude.{ℕ, if◌then◌else◌, List, [], ◌∷◌, ◌++◌, codes, Option, None, Some}
use Rattle.std.specs.Prelude.{Result, Ok}
use Rattle.std.specs.Str.{bytes_eq}
use Rattle.air_record.specs.declared.line.Line.{Line}
use Rattle.air_record.specs.declared.record.Record.{Record}
use Rattle.air_record.specs.declared.record.Record.TheVariants as records
use Rattle.air_record.specs.Text.{text_of}
use Rattle.air_text.specs.declared.fault.LineRefusal.{LineRefusal}
use Rattle.air_text.specs.Reading.{read_of}
use Rattle.journal_text.specs.declared.fault.TextFault.{TextFault}
use Rattle.journal_text.specs.Answers.{none, ◌>>=◌}
use Rattle.journal_text.specs.Pieces.{before, behind, pieces}
use Rattle.journal_text.specs.Fields.{number_to}
use Rattle.journal_text.specs.Events.{event_of}
use Rattle.journal_text.specs.Blocks.{tti_of, sleep_of, block_of, air_of, refused_of, looped_of}
use Rattle.journal_text.specs.Blocks.{drained_of, sum_of}
use Rattle.journal_text.specs.Pdus.{mac_of, rlc_of, pdcp_of}

abbrev pub line_in : Result (Option Line) LineRefusal → Result Line TextFault
line_in (Ok (Some line)) = Ok line
line_in read = none

-- a record, where a text is its own
abbrev pub if_own : List ℕ → Record → Result Record TextFault
if_own text one = if bytes_eq (text_of one) (text ++ 10 ∷ []) then Ok one else none

abbrev pub script_of : List ℕ → List ℕ → Option (List ℕ) → Result Record TextFault
script_of text number None = none
script_of text number (Some script) = do
  n ← number_to 4294967295 number
  line ← line_in (read_of script)
  if_own text (records.Line n line)

-- the record of a line, by what stands behind its first word
unfoldable pub line_of : List ℕ → Option (List ℕ) → Result Record TextFault
line_of text None = none
line_of text (Some rest) = script_of text (before 32 rest) (behind 32 rest)

-- any other record, by its words
abbrev pub record_of : List ℕ → List (List ℕ) → Result Record TextFault
record_of first fields =
    if bytes_eq first (codes "mac") then mac_of fields
    else if bytes_eq first (codes "rlc") then rlc_of fields
    else if bytes_eq first (codes "pdcp") then pdcp_of fields
    else if bytes_eq first (codes "block") then block_of fields
    else if bytes_eq first (codes "air") then air_of fields
    else if bytes_eq first (codes "tti") then tti_of fields
    else if bytes_eq first (codes "sleep") then sleep_of fields
    else if bytes_eq first (codes "refused") then refused_of fields
    else if bytes_eq first (codes "loop") then looped_of fields
    else if bytes_eq first (codes "drained") then drained_of fields
    else if bytes_eq first (codes "sum") then sum_of fields
    else event_of first fields

unfoldable pub words_of : List (List ℕ) → Result Record TextFault
words_of [] = none
words_of (first ∷ fields) = record_of first fields

-- How many words behind the first are searched for the space that ends them: octets stand last in
-- their records, and no space may stand among them. No record has more than eight words.
abbrev pub searched : List ℕ → ℕ
searched first =
    if bytes_eq first (codes "up") then 2
    else if bytes_eq first (codes "block") then 4
    else 8

unfoldable pub read_text : List ℕ → Result Record TextFault
read_text text = if bytes_eq (before 32 text) (codes "line") then line_of text (behind 32 text)
    else words_of (pieces 32 text)
