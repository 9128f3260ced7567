-- The lines of a journal, run in their turn (docs/laws/JOURNAL.md).
use Rattle.std.specs.Prelude.{◌≡◌, ℕ, List, [], ◌∷◌, None}
use Rattle.air_record.specs.declared.line.Line.{Line}
use Rattle.air_record.specs.declared.line.Line.TheVariants as lines
use Rattle.air_text.specs.Groups.{Group}
use Rattle.air_text.specs.Ranges.{IsInRange}
use Rattle.air_run.specs.Rules.{refusal}
use Rattle.air_run.specs.Run.{RunState, fresh, behind_line, done}
use Rattle.bearer_types.specs.declared.BearerConfig.{BearerConfig}
use Rattle.l2_types.specs.declared.channel.Kind.{Kind}
use Rattle.l2_types.specs.declared.channel.Kind.TheVariants.{Tm, Am}
use Rattle.promises.specs.Air.{ttis, IsOfItsTime}
use Rattle.promises.specs.Blocks.{kinds, AreTold}
use Rattle.promises.specs.Parts.{part_of_line}
use Rattle.promises.specs.Configs.{HasCount}

-- the state behind the lines of groups, of which the newest stands first
abbrev pub state_behind : List Group → RunState
state_behind [] = fresh
state_behind (g ∷ past) = done g.line (state_behind past)

-- a transparent bearer, whose line has no options, has the highest priority and an infinite rate
-- (TS 36.321 5.4.3.1)
abbrev pub IsTransparentFirst : BearerConfig → Type 0
IsTransparentFirst c = c.kind ≡ Tm → (c.channel.priority ≡ 1) × (c.channel.pbr ≡ None)

abbrev pub HasTransparentFirst : Line → Type 0
HasTransparentFirst (lines.Bearer config options) = IsTransparentFirst config
HasTransparentFirst line = Unit {0}

-- COUNTs begin at 0, but for acknowledged data, of which a line may give the first (TS 36.323 5.2)
abbrev pub IsFirstCount : Kind → ℕ → Type 0
IsFirstCount Am first = Unit {0}
IsFirstCount kind first = first ≡ 0

abbrev pub HasFirstCount : Line → Type 0
HasFirstCount (lines.Bearer config options) = IsFirstCount config.kind config.first
HasFirstCount line = Unit {0}

-- a line that is read and breaks no rule, with exactly the records that it leaves where it stands;
-- they are those of its TTIs, and of its new blocks
pub record IsRight (past : List Group) (g : Group) : Type 0 where
  pub in_range : IsInRange g.line
  pub count : HasCount g.line
  pub transparent : HasTransparentFirst g.line
  pub first : HasFirstCount g.line
  pub allowed : refusal g.line (state_behind past).rules (state_behind past).link ≡ None
  pub events_are : g.events ≡ (behind_line g.line (state_behind past)).out
  pub of_its_time : IsOfItsTime (ttis past) (part_of_line g.line) g.events
  pub blocks : AreTold (ttis past) (kinds past) (part_of_line g.line) g.events

abbrev pub KeepsOrder : List Group → Type 0
KeepsOrder [] = Unit {0}
KeepsOrder (g ∷ past) = IsRight past g × KeepsOrder past
