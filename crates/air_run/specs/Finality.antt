-- What holds of every journal (docs/formats/JOURNAL.md).
use Rattle.std.specs.Prelude.{◌≡◌, ◌≢◌, ℕ, Bool, false, List, ◌++◌}
use Rattle.air_run.specs.Journal.{journal_of}
use Rattle.line_player.specs.Journal.{Waiting}

-- what octets show is final: once a line was refused or the end line came, nothing that follows
-- changes the journal
abbrev pub ShownIsFinal : Type 0
ShownIsFinal = (whole : Bool) (octets more : List ℕ) → (journal_of false octets).close ≢ Waiting
    → journal_of whole (octets ++ more) ≡ journal_of false octets
