-- Which SDU each `take` names, by its COUNT or its place, and by its length (TS 36.323 5.1.1,
-- 5.2.1.1).
use Rattle.std.specs.Prelude.{◌≡◌, ◌⊎◌, false, Some, ℕ, List, [], ◌∷◌, ◌++◌, map, length, take}
use Rattle.std.specs.Prelude.{if◌then◌else◌}
use Rattle.std.specs.List.{AllByRecursion}
use Rattle.air_text.specs.Groups.{Group, history}
use Rattle.bearer_types.specs.declared.config.BearerConfig.{BearerConfig}
use Rattle.l2_types.specs.declared.channel.Kind.TheVariants.{Tm, Srb, Um, Am}
use Rattle.l2_types.specs.declared.side.Side.{Side}
use Rattle.promises.specs.Arrival.{taken}
use Rattle.promises.specs.Configs.{config_of}
use Rattle.promises.specs.Delivery.{is_forged}
use Rattle.promises.specs.Flows.{submitted}
use Rattle.promises.specs.Parts.{is_handover}
use Rattle.promises.specs.Records.{events_of}
use Rattle.promises.specs.Signalling.{submitted_since}
use Rattle.promises.specs.Taken.{takes_on, NamesSdu, lengths_on}

-- through all lives each `take` of a side on a channel, also one in a later life, is of the SDU of
-- its COUNT, of those that it submitted and didn't discard, and tells its length
abbrev pub TakesAreNamed : BearerConfig → ℕ → Side → List Group → Type 0
TakesAreNamed config lcid side past =
    AllByRecursion (NamesSdu config.first (taken config lcid side past))
    (takes_on lcid (events_of side (history past)))

-- on each channel with an acknowledged data bearer, where no block was forged
abbrev pub AllTakesAreNamed : List Group → Type 0
AllTakesAreNamed past =
    (side : Side) (lcid : ℕ) (config : BearerConfig) → config_of lcid past ≡ Some config
    → config.kind ≡ Am → is_forged past ≡ false → TakesAreNamed config lcid side past

-- behind each group, of which the newest stands first
abbrev pub TakesName : List Group → Type 0
TakesName [] = Unit {0}
TakesName (g ∷ past) = AllTakesAreNamed (g ∷ past) × TakesName past

-- ---- an unacknowledged data bearer takes each SDU once

-- the SDUs that a side submitted on a channel leave its queue in their order, through all lives,
-- each taken or discarded and told by its length: those that are told of are the first
abbrev pub LeaveInOrder : ℕ → Side → List Group → Type 0
LeaveInOrder lcid side past =
    lengths_on lcid (events_of side (history past))
    ≡ take (length (lengths_on lcid (events_of side (history past))))
    (map (λ sdu. length sdu) (submitted side lcid past))

-- on each channel with an unacknowledged data bearer, where no block was forged
abbrev pub AllLeaveInOrder : List Group → Type 0
AllLeaveInOrder past =
    (side : Side) (lcid : ℕ) (config : BearerConfig) → config_of lcid past ≡ Some config
    → config.kind ≡ Um → is_forged past ≡ false → LeaveInOrder lcid side past

abbrev pub SdusLeaveInOrder : List Group → Type 0
SdusLeaveInOrder [] = Unit {0}
SdusLeaveInOrder (g ∷ past) = AllLeaveInOrder (g ∷ past) × SdusLeaveInOrder past

-- ---- a transparent and a signalling bearer, which have no discard timers and begin anew in a
-- handover (TS 36.322 5.1.1.1, 5.4, TS 36.323 5.2)

-- since the last handover, or the beginning: of each SDU that leaves the queue its length
abbrev pub left_since : Side → ℕ → List Group → List ℕ
left_since side lcid [] = []
left_since side lcid (g ∷ past) =
    (if is_handover g.line then [] else left_since side lcid past)
    ++ lengths_on lcid (events_of side g.events)

-- of the SDUs that a side submitted since then the first are told of, in their order
abbrev pub LeaveInLife : ℕ → Side → List Group → Type 0
LeaveInLife lcid side past =
    left_since side lcid past
    ≡ take (length (left_since side lcid past))
    (map (λ sdu. length sdu) (submitted_since side lcid past))

-- on each channel with a transparent or a signalling bearer, where no block was forged
abbrev pub AllLeaveInLife : List Group → Type 0
AllLeaveInLife past =
    (side : Side) (lcid : ℕ) (config : BearerConfig) → config_of lcid past ≡ Some config
    → (config.kind ≡ Tm) ⊎ (config.kind ≡ Srb) → is_forged past ≡ false
    → LeaveInLife lcid side past

abbrev pub SignalsLeaveInOrder : List Group → Type 0
SignalsLeaveInOrder [] = Unit {0}
SignalsLeaveInOrder (g ∷ past) = AllLeaveInLife (g ∷ past) × SignalsLeaveInOrder past
