-- The terminal sleeps only where a line tells when it listens (TS 36.321 5.7).
use Rattle.std.specs.Prelude.{Bool, true, false, List, [], ◌∷◌, ◌≡◌}
use Rattle.std.specs.List.{filter, list_any}
use Rattle.air_record.specs.declared.line.Line.{Line}
use Rattle.air_record.specs.declared.record.Record.{Record}
use Rattle.air_text.specs.Groups.{Group}
use Rattle.air_record.specs.declared.line.Line.TheVariants as lines
use Rattle.air_record.specs.declared.record.Record.TheVariants as records

-- DRX is configured
abbrev pub sets_drx : Line → Bool
sets_drx (lines.Drx config) = true
sets_drx line = false

abbrev pub is_drx_set : List Group → Bool
is_drx_set past = list_any (λ g. sets_drx g.line) past

abbrev pub is_sleep : Record → Bool
is_sleep records.Sleep = true
is_sleep one = false

-- before that no `sleep` is told; groups, of which the newest stands first
abbrev pub SleepsBehindDrx : List Group → Type 0
SleepsBehindDrx [] = Unit {0}
SleepsBehindDrx (g ∷ past) =
    (is_drx_set past ≡ false → filter is_sleep g.events ≡ []) × SleepsBehindDrx past
