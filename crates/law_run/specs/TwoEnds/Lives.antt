-- A channel begins at both ends in one line, as its bearers are added, before any block flies
-- (TS 36.322 5.4, TS 36.323 5.2).
use Rattle.std.specs.Prelude.{◌≡◌, ℕ, ◌≤◌, false, List}
use Rattle.air_link.specs.Lines.{submitting}
use Rattle.air_link.specs.Link.{Link, end_of, fresh}
use Rattle.bearer_types.specs.Configs.{IsConfig}
use Rattle.bearer_types.specs.declared.config.BearerConfig.{BearerConfig}
use Rattle.eps_sec.specs.declared.Keys.{Keys}
use Rattle.l2_node.specs.Finding.{has}
use Rattle.l2_types.specs.declared.side.Side.{Side}
use Rattle.law_node.specs.Calls.{Add, after as after_call}
use Rattle.law_run.specs.AnyCalls.Calls.{Call, Visits, after}
use Rattle.law_run.specs.AnyCalls.Ends.{IsGiven}
use Rattle.law_deliver.specs.AmFlow.Air.{outset}
use Rattle.law_deliver.specs.AmChannel.Delivery.{HasBegun}
use Rattle.law_run.specs.TwoEnds.On.{IsOn}

-- ---- nothing is under way

abbrev pub IsAtRest : Link → Type 0
IsAtRest k = IsOn k (outset k.nb k.ue)

abbrev pub FirstIsAtRest : Type 0
FirstIsAtRest = IsAtRest fresh

abbrev pub IsFew : Call → Type 0
IsFew (Visits maximum) = maximum ≤ 28
IsFew call = Unit {0}

-- nothing flies but in a TTI
abbrev pub CallsRest : Type 0
CallsRest = (c : Call) (k : Link) → IsGiven c → IsFew c → IsAtRest k → IsAtRest (after c k)

abbrev pub SubmissionsRest : Type 0
SubmissionsRest = (side : Side) (lcid : ℕ) (sdu : List ℕ) (k : Link) → IsAtRest k
    → IsAtRest (submitting side lcid sdu k)

-- ---- a channel begins

-- at an end that has no bearer of it
abbrev pub ChannelsBegin : Type 0
ChannelsBegin = (config : BearerConfig) (keys : Keys) (k : Link) → IsConfig config → IsAtRest k
    → (side : Side) → has config.channel.lcid (end_of side k).bearers ≡ false
    → HasBegun side config.channel.lcid config keys (after_call (end_of side k) (Add config keys))
