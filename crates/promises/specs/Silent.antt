-- A sender that gives up is silent until the next handover, in which it begins anew (TS 36.322
-- 5.2.1, 5.4).
use Rattle.std.specs.Prelude.{ℕ, Bool, true, false, if◌then◌else◌, ◌≡◌, Some, List, [], ◌∷◌, ◌++◌}
use Rattle.std.specs.List.{filter}
use Rattle.air_text.specs.Groups.{Group}
use Rattle.bearer_types.specs.declared.config.BearerConfig.{BearerConfig}
use Rattle.bearer_types.specs.declared.event.Event.{Event}
use Rattle.bearer_types.specs.declared.event.Event.TheVariants.{Send, Fail}
use Rattle.l2_types.specs.declared.event.How.{How}
use Rattle.l2_types.specs.declared.event.How.TheVariants.{Status}
use Rattle.l2_types.specs.declared.side.Side.{Side}
use Rattle.promises.specs.Configs.{config_of}
use Rattle.promises.specs.Events.{told_on}
use Rattle.promises.specs.Parts.{is_handover}
use Rattle.promises.specs.Records.{events_of}

-- a data PDU, and no STATUS
abbrev pub is_data : How → Bool
is_data Status = false
is_data how = true

abbrev pub is_failure : Event → Bool
is_failure (Fail lcid sn) = true
is_failure event = false

-- a data PDU is sent, or its sender gives up
abbrev pub is_of_sender : Event → Bool
is_of_sender (Send lcid how sn) = is_data how
is_of_sender (Fail lcid sn) = true
is_of_sender event = false

-- what is told behind the first failure
abbrev pub behind_failure : List Event → List Event
behind_failure [] = []
behind_failure (e ∷ told) = if is_failure e then told else behind_failure told

-- ---- of a journal in groups, of which the newest stands first

-- what a side has told of a channel in the life that runs; the records of a handover are of the
-- life that it ends
abbrev pub told_since : Side → ℕ → List Group → List Event
told_since side lcid [] = []
told_since side lcid (g ∷ past) = if is_handover g.line then []
    else told_since side lcid past ++ told_on lcid (events_of side g.events)

-- on a channel with a bearer a group tells nothing of a sender that gave up in this life, or gives
-- up in the group
abbrev pub IsSilent : List Group → Group → Type 0
IsSilent past g =
    (side : Side) (lcid : ℕ) (config : BearerConfig) → config_of lcid past ≡ Some config
    → filter is_of_sender
    (behind_failure (told_since side lcid past ++ told_on lcid (events_of side g.events))) ≡ []

abbrev pub FailedAreSilent : List Group → Type 0
FailedAreSilent [] = Unit {0}
FailedAreSilent (g ∷ past) = IsSilent past g × FailedAreSilent past
