-- The laws over journals (docs/formats/JOURNAL.md).
use Rattle.std.specs.Prelude.{◌≡◌, ℕ, Bool, List, Some, Ok}
use Rattle.air_run.specs.Journal.{journal_of}
use Rattle.law_run.specs.Promises.{IsPromised}
use Rattle.air_text.specs.Reading.{read_of}
use Rattle.air_text.specs.Ranges.{IsInRange}
use Rattle.air_record.specs.declared.line.Line.{Line}

-- the fields of a line that is read are in their ranges
abbrev pub LinesAreInRange : Type 0
LinesAreInRange = (text : List ℕ) (line : Line) → read_of text ≡ Ok (Some line) → IsInRange line

-- the journal of every script, of octets that are all there are or of which more may come
abbrev pub EveryJournal : Type 0
EveryJournal =
    (whole : Bool) (octets : List ℕ) → IsPromised whole octets (journal_of whole octets)
