-- The bearers of a journal: the line of each stands before all records, and is the only one of its
-- channel; and each SDU of acknowledged data is told of as taken with its COUNT, of 32 bits
-- (docs/formats/SCRIPT.md; TS 36.323 5.1.1, 6.3.5).
use Rattle.std.specs.Prelude.{ℕ, ◌≡◌, ◌<◌, ◌^◌, List, [], ◌∷◌, Some, None}
use Rattle.std.specs.List.{AllByRecursion}
use Rattle.l2_types.specs.declared.channel.Kind.TheVariants.{Am}
use Rattle.bearer_types.specs.declared.config.BearerConfig.{BearerConfig}
use Rattle.bearer_types.specs.declared.event.Event.{Event}
use Rattle.bearer_types.specs.declared.event.Event.TheVariants.{Take}
use Rattle.air_record.specs.declared.line.Line.{Line}
use Rattle.air_record.specs.declared.line.Line.TheVariants as lines
use Rattle.air_record.specs.declared.record.Record.{Record}
use Rattle.air_record.specs.declared.record.Record.TheVariants as records
use Rattle.air_text.specs.Groups.{Group}
use Rattle.promises.specs.Configs.{config_of}
use Rattle.promises.specs.Parts.{Rests, part_of_line}

-- ---- lines

-- a line that configures leaves no records
pub record IsEarly (g : Group) : Type 0 where
  pub rests : part_of_line g.line ≡ Rests
  pub leaves_none : g.events ≡ []

pub record IsFirst (lcid : ℕ) (past : List Group) : Type 0 where
  pub only : config_of lcid past ≡ None
  pub early : AllByRecursion IsEarly past

abbrev pub BeginsFirst : Line → List Group → Type 0
BeginsFirst (lines.Bearer config options) past = IsFirst config.channel.lcid past
BeginsFirst line past = Unit {0}

-- each, of groups of which the newest stands first
abbrev pub BearersBeginFirst : List Group → Type 0
BearersBeginFirst [] = Unit {0}
BearersBeginFirst (g ∷ past) = BeginsFirst g.line past × BearersBeginFirst past

-- ---- COUNTs

abbrev pub IsCounted : ℕ → Event → Type 0
IsCounted lcid (Take l None len) = l ≡ lcid → ⊥
IsCounted lcid (Take l (Some count) len) = l ≡ lcid → count < 2 ^ 32
IsCounted lcid event = Unit {0}

abbrev pub TellsCount : ℕ → Record → Type 0
TellsCount lcid (records.Of side event) = IsCounted lcid event
TellsCount lcid one = Unit {0}

abbrev pub CountsAreTold : List Group → Type 0
CountsAreTold [] = Unit {0}
CountsAreTold (g ∷ past) =
    ((lcid : ℕ) (config : BearerConfig) → config_of lcid (g ∷ past) ≡ Some config → config.kind ≡ Am
    → AllByRecursion (TellsCount lcid) g.events)
    × CountsAreTold past
