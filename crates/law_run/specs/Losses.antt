-- What unacknowledged data bearers deliver, in each direction, while losses are short (TS 36.322
-- 5.1.2, 7.1, TS 36.323 5.1.2.1.3, 6.2.3).
use Rattle.std.specs.Prelude.{◌≡◌, ◌⊎◌, ℕ, false, List, [], ◌∷◌, Some}
use Rattle.bearer_types.specs.Sides.{other, sent_by}
use Rattle.air_record.specs.declared.record.State.{State}
use Rattle.air_record.specs.declared.record.State.TheVariants.{Long, Short}
use Rattle.air_run.specs.Sums.{state_of}
use Rattle.air_text.specs.Groups.{Group}
use Rattle.bearer_types.specs.declared.config.BearerConfig.{BearerConfig}
use Rattle.l2_types.specs.declared.channel.Kind.TheVariants.{Um}
use Rattle.l2_types.specs.declared.side.Side.{Side}
use Rattle.law_words.specs.Lists.{IsSubsequence}
use Rattle.um_losses.specs.Losses.{is_long}
use Rattle.promises.specs.Delivery.{is_forged}
use Rattle.promises.specs.Drained.{has_failed}
use Rattle.promises.specs.Flows.{submitted, delivered}
use Rattle.law_run.specs.Order.{state_behind}
use Rattle.promises.specs.Configs.{config_of}

-- the state that a sum would tell of the flow that a side sends on a channel
abbrev pub state_told : Side → ℕ → List Group → State
state_told side lcid past =
    state_of (is_long (sent_by side) lcid (state_behind past).losses.flows)
    (has_failed side lcid past)

-- it is `short` or `long`; where it is `short`, what the other end has handed up are SDUs that this
-- end submitted: in their order, each once and unchanged, through all handovers
pub record DeliversShort (from : Side) (lcid : ℕ) (past : List Group) : Type 0 where
  pub is_told : (state_told from lcid past ≡ Short) ⊎ (state_told from lcid past ≡ Long)
  pub in_order : state_told from lcid past ≡ Short → IsSubsequence (delivered (other from) lcid past) (submitted from lcid past)

-- on each channel with an unacknowledged data bearer, where no block was forged
abbrev pub AllDeliverShort : List Group → Type 0
AllDeliverShort past = (from : Side) (lcid : ℕ) (config : BearerConfig)
    → config_of lcid past ≡ Some config → config.kind ≡ Um → is_forged past ≡ false
    → DeliversShort from lcid past

-- behind each group, of which the newest stands first
abbrev pub DeliversWhileShort : List Group → Type 0
DeliversWhileShort [] = Unit {0}
DeliversWhileShort (g ∷ past) = AllDeliverShort (g ∷ past) × DeliversWhileShort past
