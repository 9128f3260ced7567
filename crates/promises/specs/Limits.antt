-- How many SDUs wait at the most (TS 36.322 5.1.1.1, TS 36.323 5.1.1).
use Rattle.std.specs.Prelude.{◌≡◌, ◌⊎◌, ◌≤◌, ◌-◌, false, Some, ℕ, List, [], ◌∷◌, length}
use Rattle.air_text.specs.Groups.{Group, history}
use Rattle.bearer_types.specs.declared.config.BearerConfig.{BearerConfig}
use Rattle.bearer_types.specs.declared.event.Event.{Event}
use Rattle.l2_types.specs.declared.channel.Kind.{Kind}
use Rattle.l2_types.specs.declared.channel.Kind.TheVariants.{Tm, Srb, Um, Am}
use Rattle.l2_types.specs.declared.limits.TheConstants.{MOST_WAITING}
use Rattle.l2_types.specs.declared.side.Side.{Side}
use Rattle.promises.specs.Configs.{config_of}
use Rattle.promises.specs.Delivery.{is_forged}
use Rattle.promises.specs.Flows.{submitted}
use Rattle.promises.specs.Records.{events_of}
use Rattle.promises.specs.Signalling.{submitted_since}
use Rattle.promises.specs.Taken.{leaves, lengths_on}
use Rattle.promises.specs.Takes.{left_since}

-- how many are told of as taken, each once, or discarded
abbrev pub gone : Kind → ℕ → ℕ → List Event → ℕ
gone Am l first events = length (leaves l first events)
gone Um l first events = length (lengths_on l events)
gone Srb l first events = length (lengths_on l events)
gone Tm l first events = length (lengths_on l events)

-- of the SDUs that a side submitted the others
abbrev pub waiting : BearerConfig → ℕ → Side → List Group → ℕ
waiting config lcid side past =
    length (submitted side lcid past)
    - gone config.kind lcid config.first (events_of side (history past))

-- on each channel with a data bearer, where no block was forged
abbrev pub FewWait : List Group → Type 0
FewWait past =
    (side : Side) (lcid : ℕ) (config : BearerConfig) → config_of lcid past ≡ Some config
    → (config.kind ≡ Um) ⊎ (config.kind ≡ Am) → is_forged past ≡ false
    → waiting config lcid side past ≤ MOST_WAITING

-- on each channel with a transparent or a signalling bearer, of those submitted since the last
-- handover
abbrev pub FewSignalsWait : List Group → Type 0
FewSignalsWait past =
    (side : Side) (lcid : ℕ) (config : BearerConfig) → config_of lcid past ≡ Some config
    → (config.kind ≡ Tm) ⊎ (config.kind ≡ Srb) → is_forged past ≡ false
    → length (submitted_since side lcid past) - length (left_since side lcid past) ≤ MOST_WAITING

-- behind each group, of which the newest stands first
abbrev pub QueuesAreShort : List Group → Type 0
QueuesAreShort [] = Unit {0}
QueuesAreShort (g ∷ past) = (FewWait (g ∷ past) × FewSignalsWait (g ∷ past)) × QueuesAreShort past
