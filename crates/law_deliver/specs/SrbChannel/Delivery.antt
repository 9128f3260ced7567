-- What a channel of signalling delivers in each life, in each direction (TS 36.323 5.1, 5.2).
use Rattle.std.specs.Prelude.{◌≡◌, ℕ, ◌≤◌, ◌^◌, List, []}
use Rattle.bearer_types.specs.declared.config.BearerConfig.{BearerConfig}
use Rattle.eps_sec.specs.declared.Keys.{Keys}
use Rattle.l2_node.specs.End.{End}
use Rattle.l2_types.specs.declared.Kind.TheVariants as kinds
use Rattle.l2_types.specs.declared.side.Side.{Side}
use Rattle.l2_types.specs.declared.side.Side.TheVariants.{Nb, Ue}
use Rattle.law_node.specs.Calls.{Move}
use Rattle.law_node.specs.Telling.{told_of, told_over}
use Rattle.bearer_types.specs.Sides.{other}
use Rattle.law_words.specs.Lists.{AreFirstSdus}
use Rattle.law_words.specs.Passing.{Passing, nothing_told, with_passings}
use Rattle.pdcp_pdu.specs.Kinds.{bits_of}
use Rattle.pdcp_pdu.specs.declared.PdcpKind.TheVariants.{Srb as PdcpSrb}
use Rattle.promises.specs.Sequence.{AreInSequence}
use Rattle.law_deliver.specs.AmChannel.Arrival.{happened}
use Rattle.law_deliver.specs.SrbDelivery.Arrival.{passes_of}
use Rattle.law_deliver.specs.AmChannel.Delivery.{HasBegun, SetNoneAt, ups_at, submitted_at}
use Rattle.law_deliver.specs.AmChannel.Drained.{IsDrained}
use Rattle.law_deliver.specs.AmChannel.Lives.{AirStep, AreLiving, lives, end_at, all_calls}
use Rattle.law_deliver.specs.AmFlow.Air.{outset}
use Rattle.law_deliver.specs.AmFlow.Ups.{ups_on}
use Rattle.promises.specs.Events.{told_on, losses}
use Rattle.law_deliver.specs.SrbChannel.Running.{Life, start, running, first_life}

-- two ends that begin the channel under one configuration of signalling and the same keys; a COUNT
-- has 32 bits
pub record SrbEndsBeginAlike (l : ℕ) (c : BearerConfig) (keys : Keys) (nb ue : End) : Type 0 where
  pub kind : c.kind ≡ kinds.Srb
  pub first : c.first ≤ 2 ^ 32
  pub nb_begun : HasBegun Nb l c keys nb
  pub ue_begun : HasBegun Ue l c keys ue

-- no discard timers are set on signalling
abbrev pub NoneSet : ℕ → List AirStep → End → End → Type 0
NoneSet l steps nb ue = (side : Side) → SetNoneAt l side steps (outset nb ue)

-- in the running life
abbrev pub life_of : List AirStep → End → End → Life
life_of steps nb ue = running steps (first_life nb ue)

abbrev pub ups_in_life : ℕ → Side → Life → List (List ℕ)
ups_in_life l side life = ups_at l side life.steps (start life)

abbrev pub submitted_in_life : ℕ → Side → Life → List (List ℕ)
submitted_in_life l side life = submitted_at l side life.steps (start life)

-- from an end to the other: what has gone up at the other are the SDUs that were submitted first at
-- the one: in their order, each once and unchanged, with none left out
abbrev pub ChannelsDeliverTheFront : Type 0
ChannelsDeliverTheFront =
    (l : ℕ) (c : BearerConfig) (keys : Keys) (nb ue : End) (from : Side) (steps : List AirStep)
    → SrbEndsBeginAlike l c keys nb ue → AreLiving l (outset nb ue) steps → NoneSet l steps nb ue
    → AreFirstSdus (ups_in_life l (other from) (life_of steps nb ue))
    (submitted_in_life l from (life_of steps nb ue))

-- the PDUs of RLC that go from an end in the running life: those in its new blocks, and those in
-- the blocks that come; what PDCP gives RLC isn't looked at
abbrev pub passes_in_life : ℕ → Side → Life → List Passing
passes_in_life l from life = passes_of (happened (bits_of PdcpSrb) l from life.steps (start life))

-- which they are: those before the first that hasn't come
abbrev pub ChannelsDeliverInSequence : Type 0
ChannelsDeliverInSequence =
    (l : ℕ) (c : BearerConfig) (keys : Keys) (nb ue : End) (from : Side) (steps : List AirStep)
    → SrbEndsBeginAlike l c keys nb ue → AreLiving l (outset nb ue) steps → NoneSet l steps nb ue
    → AreInSequence (submitted_in_life l from (life_of steps nb ue))
    (ups_in_life l (other from) (life_of steps nb ue))
    (with_passings (passes_in_life l from (life_of steps nb ue)) nothing_told)

-- and all of them, once the channel is drained at the one, and its sender there hasn't failed
abbrev pub DrainedChannelsHaveDelivered : Type 0
DrainedChannelsHaveDelivered =
    (l : ℕ) (c : BearerConfig) (keys : Keys) (nb ue : End) (from : Side) (steps : List AirStep)
    → SrbEndsBeginAlike l c keys nb ue → AreLiving l (outset nb ue) steps → NoneSet l steps nb ue
    → IsDrained l (end_at from (lives steps (outset nb ue)))
    → ups_in_life l (other from) (life_of steps nb ue)
    ≡ submitted_in_life l from (life_of steps nb ue)

-- as a life ends nothing goes up
abbrev pub NothingGoesUpBetween : Type 0
NothingGoesUpBetween =
    (l : ℕ) (c : BearerConfig) (keys next : Keys) (nb ue : End) (side : Side)
    (steps : List AirStep)
    → SrbEndsBeginAlike l c keys nb ue → AreLiving l (outset nb ue) steps → NoneSet l steps nb ue
    → ups_on l (told_of (end_at side (lives steps (outset nb ue))) (Move next)) ≡ []

-- and in no life a PDU of PDCP is lost as an end receives it, nor as the life ends
pub record LosesNone (l : ℕ) (side : Side) (steps : List AirStep) (nb ue : End) : Type 0 where
  pub in_life : losses
      (told_on l
      (told_over (all_calls side (life_of steps nb ue).steps (start (life_of steps nb ue)))
      (end_at side (start (life_of steps nb ue))))) ≡ []
  pub between : (next : Keys)
      → losses (told_on l (told_of (end_at side (lives steps (outset nb ue))) (Move next))) ≡ []

abbrev pub NothingIsLost : Type 0
NothingIsLost =
    (l : ℕ) (c : BearerConfig) (keys : Keys) (nb ue : End) (side : Side) (steps : List AirStep)
    → SrbEndsBeginAlike l c keys nb ue → AreLiving l (outset nb ue) steps → NoneSet l steps nb ue
    → LosesNone l side steps nb ue
