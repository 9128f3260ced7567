-- The bearer of a channel, by its line (docs/formats/SCRIPT.md).
use Rattle.std.specs.Prelude.{ℕ, ◌==◌, if◌then◌else◌, Option, Some, List, [], ◌∷◌, None, ◌≤◌}
use Rattle.air_record.specs.declared.line.Line.{Line}
use Rattle.bearer_types.specs.declared.config.BearerConfig.{BearerConfig}
use Rattle.air_text.specs.Groups.{Group}
use Rattle.air_record.specs.declared.line.Line.TheVariants as lines

-- ---- the bearer of a channel, by its line

abbrev pub config_by : ℕ → Line → Option BearerConfig → Option BearerConfig
config_by lcid (lines.Bearer config options) before =
    if config.channel.lcid == lcid then Some config else before
config_by lcid line before = before

abbrev pub config_of : ℕ → List Group → Option BearerConfig
config_of lcid [] = None
config_of lcid (g ∷ past) = config_by lcid g.line (config_of lcid past)

-- the first COUNT of a bearer has 32 bits (TS 36.323 6.3.5)
abbrev pub HasCount : Line → Type 0
HasCount (lines.Bearer config options) = config.first ≤ 4294967295
HasCount line = Unit {0}
