-- What a bearer of unacknowledged data delivers while losses are short, in each direction and
-- through lives (TS 36.322 5.1.2.2, TS 36.323 5.1.2.1.3).
use Rattle.std.specs.Prelude.{◌≡◌, ℕ, ◌+◌, ◌-◌, ◌<◌, ◌^◌, List, [], ◌∷◌, ◌++◌, map, length}
use Rattle.bearer_types.specs.declared.BearerConfig.{BearerConfig}
use Rattle.bearer_types.specs.Configs.{IsConfig}
use Rattle.eps_sec.specs.declared.Keys.{Keys}
use Rattle.l2_num.specs.Ascending.{AreBetween}
use Rattle.l2_types.specs.declared.Kind.TheVariants as kinds
use Rattle.l2_types.specs.declared.Side.TheVariants.{Nb, Ue}
use Rattle.bearer.specs.Bearer.{flow_of}
use Rattle.bearer.specs.declared.flow.Flow.TheVariants.{Um}
use Rattle.bearer.specs.Unacknowledged.State.{State}
use Rattle.law_words.specs.Lists.{IsSubsequence}
use Rattle.law_words.specs.Lists.{those}
use Rattle.law_deliver.specs.UmFlow.Pair.{Step, um_pair_outset}
use Rattle.law_deliver.specs.UmFlow.Flows.{Way, places, last_places}
use Rattle.law_deliver.specs.UmDelivery.Lives.{Life, Direction, way, AreShortIn, AreLiving}
use Rattle.law_deliver.specs.UmDelivery.Lives.{next_near, next_far, ended, last, taken, all_ups}
use Rattle.law_deliver.specs.UmDelivery.Lives.{all_taken, all_submitted}

-- both ends of a bearer as its first life begins; a COUNT has 32 bits
pub record AreBothEnds (c : BearerConfig) (keys : Keys) (nb ue : State) : Type 0 where
  pub config : IsConfig c
  pub first : c.first < 2 ^ 32
  pub kind : c.kind ≡ kinds.Um
  pub nb_is : flow_of c.kind c keys Nb ≡ Um nb
  pub ue_is : flow_of c.kind c keys Ue ≡ Um ue

-- ---- losses are short

-- fewer PDUs than PDCP has sequence numbers lie between two that RLC hands up one after the other
-- in a life, and before the first, by their places among those that RLC was given
abbrev pub FewBetween : ℕ → ℕ → List ℕ → Type 0
FewBetween bits low [] = Unit {0}
FewBetween bits low (place ∷ more) = (place - low < 2 ^ bits) × FewBetween bits (place + 1) more

-- the places of those that it hands up: in a life so far, and in one that has ended, with what it
-- could put together then
abbrev pub places_in : BearerConfig → Way → List ℕ
places_in c w = places c.rlc_bits c.rx.reorder w

abbrev pub places_to_end : BearerConfig → Way → List ℕ
places_to_end c w = last_places c.rlc_bits c.rx.reorder w

-- for RLC in each life, and for PDCP
abbrev pub AreShort : BearerConfig → Direction → State → State → List Life → List Step → Type 0
AreShort c d near far [] steps = AreShortIn d (um_pair_outset near far) steps
    × FewBetween c.pdcp_bits 0 (places_in c (way d near far steps))
AreShort c d near far (l ∷ ls) steps =
    (AreShortIn d (um_pair_outset near far) l.steps
    × FewBetween c.pdcp_bits 0 (places_to_end c (way d near far l.steps)))
    × AreShort c d (next_near near far l) (next_far near far l) ls steps

-- ---- what goes up

-- the places of these through lives, among the SDUs that were taken
abbrev pub all_places : BearerConfig → ℕ → List Way → Way → List ℕ
all_places c earlier [] w = map (λ place. earlier + place) (places_in c w)
all_places c earlier (v ∷ vs) w =
    map (λ place. earlier + place) (places_to_end c v)
    ++ all_places c (earlier + length (taken v)) vs w

-- just the SDUs of the PDUs that RLC handed up: in their order, each once and unchanged
pub record IsWhatCameThroughLives (c : BearerConfig) (vs : List Way) (w : Way) : Type 0 where
  pub order : AreBetween 0 (all_places c 0 vs w) (length (all_taken vs w))
  pub ups_are : all_ups vs w ≡ those (all_places c 0 vs w) (all_taken vs w)

-- so they are some of those that the other end took, and of those that were submitted there
pub record AreSome (vs : List Way) (w : Way) : Type 0 where
  pub taken : IsSubsequence (all_ups vs w) (all_taken vs w)
  pub submitted : IsSubsequence (all_ups vs w) (all_submitted vs w)

-- ---- the laws

abbrev pub DeliversWhatCame : Type 0
DeliversWhatCame =
    (c : BearerConfig) (keys : Keys) (nb ue : State) (ls : List Life) (steps : List Step)
    (d : Direction) → AreBothEnds c keys nb ue
    → AreLiving nb ue ls steps → AreShort c d nb ue ls steps
    → IsWhatCameThroughLives c (ended d nb ue ls) (last d nb ue ls steps)

abbrev pub DeliversInOrder : Type 0
DeliversInOrder =
    (c : BearerConfig) (keys : Keys) (nb ue : State) (ls : List Life) (steps : List Step)
    (d : Direction) → AreBothEnds c keys nb ue
    → AreLiving nb ue ls steps → AreShort c d nb ue ls steps
    → AreSome (ended d nb ue ls) (last d nb ue ls steps)
