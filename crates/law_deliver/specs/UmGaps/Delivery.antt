-- Where what happens to a flow tells no long losses, losses are short for RLC and for PDCP (TS
-- 36.322 7.1, 7.2, TS 36.323 6.2.3).
use Rattle.std.specs.Prelude.{◌≡◌, ℕ, ◌^◌, false, List}
use Rattle.bearer_types.specs.Sides.{other}
use Rattle.bearer_types.specs.declared.config.BearerConfig.{BearerConfig}
use Rattle.law_deliver.specs.AmChannel.Delivery.{ups_at, submitted_at}
use Rattle.law_deliver.specs.AmChannel.Lives.{AirStep, AreLiving}
use Rattle.eps_sec.specs.declared.Keys.{Keys}
use Rattle.law_deliver.specs.AmFlow.Air.{outset}
use Rattle.l2_node.specs.End.{End}
use Rattle.bearer_types.specs.Sides.{sent_by}
use Rattle.l2_types.specs.declared.side.Side.{Side}
use Rattle.law_words.specs.Lists.{IsSubsequence}
use Rattle.law_deliver.specs.UmChannel.Delivery.{UmEndsBeginAlike, AreShortFrom}
use Rattle.um_losses.specs.Flow.{Flow, begun}
use Rattle.um_losses.specs.Told.{all_after}
use Rattle.law_deliver.specs.UmGaps.Whats.{whats}

-- the flow of a channel from a side, as its bearers come
abbrev pub first_flow : Side → ℕ → BearerConfig → Flow
first_flow from l c = begun (sent_by from) l c.rlc_bits (2 ^ c.pdcp_bits)

-- nothing long is told from the side by so many steps
abbrev pub TellsNoLong : Side → ℕ → BearerConfig → List AirStep → End → End → Type 0
TellsNoLong from l c steps nb ue =
    (all_after (whats from l c.rlc_bits steps (outset nb ue)) (first_flow from l c)).gaps.long
    ≡ false

-- ---- the laws

abbrev pub LossesAreTold : Type 0
LossesAreTold =
    (l : ℕ) (c : BearerConfig) (keys : Keys) (nb ue : End) (from : Side) (steps : List AirStep)
    → UmEndsBeginAlike l c keys nb ue → AreLiving l (outset nb ue) steps
    → TellsNoLong from l c steps nb ue
    → AreShortFrom from l c keys steps (outset nb ue)

-- so what goes up at the other end are some of the SDUs that were submitted at the one
abbrev pub ChannelsDeliverAsTold : Type 0
ChannelsDeliverAsTold =
    (l : ℕ) (c : BearerConfig) (keys : Keys) (nb ue : End) (from : Side) (steps : List AirStep)
    → UmEndsBeginAlike l c keys nb ue → AreLiving l (outset nb ue) steps
    → TellsNoLong from l c steps nb ue
    → IsSubsequence (ups_at l (other from) steps (outset nb ue))
    (submitted_at l from steps (outset nb ue))
