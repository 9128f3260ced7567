-- What a channel of unacknowledged data delivers while losses are short, in each direction and
-- through lives (TS 36.322 5.1.2.2, TS 36.323
-- 5.1.2.1.3).
use Rattle.std.specs.Prelude.{◌≡◌, ℕ, ◌<◌, ◌^◌, List, [], length}
use Rattle.bearer_types.specs.Configs.{IsConfig}
use Rattle.bearer_types.specs.declared.config.BearerConfig.{BearerConfig}
use Rattle.bearer.specs.Unacknowledged.State.{fresh}
use Rattle.eps_sec.specs.declared.Keys.{Keys}
use Rattle.l2_node.specs.End.{End}
use Rattle.l2_num.specs.Ascending.{AreBetween}
use Rattle.l2_types.specs.declared.Kind.TheVariants as kinds
use Rattle.l2_types.specs.declared.side.Side.{Side}
use Rattle.l2_types.specs.declared.side.Side.TheVariants.{Nb, Ue}
use Rattle.bearer_types.specs.Sides.{other}
use Rattle.law_deliver.specs.AmFlow.Air.{Air, outset}
use Rattle.law_deliver.specs.AmChannel.Delivery.{HasBegun, ups_at, submitted_at, taken_at}
use Rattle.law_deliver.specs.AmChannel.Lives.{AirStep, AreLiving}
use Rattle.law_words.specs.Lists.{IsSubsequence}
use Rattle.law_words.specs.Lists.{those}
use Rattle.law_deliver.specs.UmDelivery.Delivery.{AreShort, all_places}
use Rattle.law_deliver.specs.UmDelivery.Lives.{Direction, There, Back, ended, last}
use Rattle.law_deliver.specs.UmChannel.Pairs.{walk}

-- two ends, under one configuration of unacknowledged data and the same keys; a COUNT has 32 bits
pub record UmEndsBeginAlike (l : ℕ) (c : BearerConfig) (keys : Keys) (nb ue : End) : Type 0 where
  pub kind : c.kind ≡ kinds.Um
  pub config : IsConfig c
  pub first : c.first < 2 ^ 32
  pub nb_begun : HasBegun Nb l c keys nb
  pub ue_begun : HasBegun Ue l c keys ue

abbrev pub direction_from : Side → Direction
direction_from Nb = There
direction_from Ue = Back

-- losses are short from a side to the other: for RLC in each life, of which each PDU that comes has
-- a number less than a window above the highest that came, and for PDCP, of which RLC hands up PDUs
-- with fewer COUNTs between them than there are sequence numbers
abbrev pub AreShortFrom : Side → ℕ → BearerConfig → Keys → List AirStep → Air → Type 0
AreShortFrom from l c keys steps a =
    AreShort c (direction_from from) (fresh c keys Nb) (fresh c keys Ue) (walk l [] steps a).lives
    (walk l [] steps a).steps

-- the places of those PDUs among the SDUs that the side took
abbrev pub places_from : Side → ℕ → BearerConfig → Keys → List AirStep → Air → List ℕ
places_from from l c keys steps a =
    all_places c 0
    (ended (direction_from from) (fresh c keys Nb) (fresh c keys Ue)
    (walk l [] steps a).lives)
    (last (direction_from from) (fresh c keys Nb) (fresh c keys Ue) (walk l [] steps a).lives
    (walk l [] steps a).steps)

-- ---- the laws, from an end to the other

-- what goes up at the other are just the SDUs whose PDUs RLC hands up there: in their order, each
-- once and unchanged
pub record IsWhatCameOnChannel (l : ℕ) (c : BearerConfig) (keys : Keys) (from : Side)
    (steps : List AirStep) (a : Air) : Type 0 where
  pub order : AreBetween 0 (places_from from l c keys steps a) (length (taken_at l from steps a))
  pub ups_are : ups_at l (other from) steps a
      ≡ those (places_from from l c keys steps a) (taken_at l from steps a)

abbrev pub ChannelsDeliverWhatCame : Type 0
ChannelsDeliverWhatCame =
    (l : ℕ) (c : BearerConfig) (keys : Keys) (nb ue : End) (from : Side) (steps : List AirStep)
    → UmEndsBeginAlike l c keys nb ue → AreLiving l (outset nb ue) steps
    → AreShortFrom from l c keys steps (outset nb ue)
    → IsWhatCameOnChannel l c keys from steps (outset nb ue)

-- so they are some of those that were submitted at the one
abbrev pub ChannelsDeliverInOrder : Type 0
ChannelsDeliverInOrder =
    (l : ℕ) (c : BearerConfig) (keys : Keys) (nb ue : End) (from : Side) (steps : List AirStep)
    → UmEndsBeginAlike l c keys nb ue → AreLiving l (outset nb ue) steps
    → AreShortFrom from l c keys steps (outset nb ue)
    → IsSubsequence (ups_at l (other from) steps (outset nb ue))
    (submitted_at l from steps (outset nb ue))
