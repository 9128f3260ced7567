-- What acknowledged data bearers deliver, in each direction (TS 36.322 5.1.3, TS 36.323 5.1.2, 5.2,
-- 5.4).
use Rattle.std.specs.Prelude.{Bool, true, false, List, ℕ, ◌==◌, ◌≡◌, [], Some, ◌∷◌}
use Rattle.std.specs.List.{list_any}
use Rattle.air_record.specs.declared.line.Line.{Line}
use Rattle.air_text.specs.Groups.{Group, history}
use Rattle.promises.specs.Events.{discards_on}
use Rattle.l2_types.specs.declared.side.Side.{Side}
use Rattle.promises.specs.Records.{events_of}
use Rattle.bearer_types.specs.Sides.{other}
use Rattle.law_words.specs.Lists.{AreFirstSdus, IsSubsequence}
use Rattle.promises.specs.Flows.{submitted, delivered}
use Rattle.bearer_types.specs.declared.config.BearerConfig.{BearerConfig}
use Rattle.l2_types.specs.declared.channel.Kind.TheVariants.{Am}
use Rattle.promises.specs.Configs.{config_of}
use Rattle.air_record.specs.declared.line.Line.TheVariants as lines

-- a block comes that neither end built
abbrev pub forges : Line → Bool
forges (lines.Forge side octets) = true
forges line = false

abbrev pub is_forged : List Group → Bool
is_forged past = list_any (λ g. forges g.line) past

-- a channel is given discard timers
abbrev pub sets_timer : ℕ → Line → Bool
sets_timer lcid (lines.Discard l ttis) = l == lcid
sets_timer lcid line = false

abbrev pub is_timed : ℕ → List Group → Bool
is_timed lcid past = list_any (λ g. sets_timer lcid g.line) past

-- the SDUs that a side discards on it as these end, by their lengths
abbrev pub discarded : Side → ℕ → List Group → List ℕ
discarded side lcid past = discards_on lcid (events_of side (history past))

-- what the other end has handed up are SDUs that this end submitted: in their order, each once and
-- unchanged, whatever was lost, repeated or late, and through all handovers; where it discards none
-- they are the first of these, with none left out; without such timers it discards none
pub record Delivers (from : Side) (lcid : ℕ) (past : List Group) : Type 0 where
  pub in_order : IsSubsequence (delivered (other from) lcid past) (submitted from lcid past)
  pub none_left_out : discarded from lcid past ≡ []
      → AreFirstSdus (delivered (other from) lcid past) (submitted from lcid past)
  pub none_discarded : is_timed lcid past ≡ false → discarded from lcid past ≡ []

-- on each channel with an acknowledged data bearer, where no block was forged
abbrev pub DeliverAll : List Group → Type 0
DeliverAll past =
    (from : Side) (lcid : ℕ) (config : BearerConfig) → config_of lcid past ≡ Some config
    → config.kind ≡ Am → is_forged past ≡ false → Delivers from lcid past

-- behind each group, of which the newest stands first
abbrev pub DeliversInOrder : List Group → Type 0
DeliversInOrder [] = Unit {0}
DeliversInOrder (g ∷ past) = DeliverAll (g ∷ past) × DeliversInOrder past
