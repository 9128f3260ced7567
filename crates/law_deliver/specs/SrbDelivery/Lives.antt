-- A signalling bearer from life to life: both ends begin anew under the same keys, with COUNT 0,
-- and drop what waits (TS 36.323 5.2.1.3, 5.2.2.3).
use Rattle.std.specs.Prelude.{◌≡◌, ℕ, ◌≤◌, ◌^◌, List, [], ◌∷◌, ◌++◌}
use Rattle.law_bearer.specs.AmBearer.Calls.{ups_among}
use Rattle.law_words.specs.Lists.{AreFirstSdus}
use Rattle.bearer.specs.Bearer.{flow_of}
use Rattle.bearer.specs.declared.flow.Flow.TheVariants.{Am}
use Rattle.bearer.specs.Lives.{stopping}
use Rattle.bearer.specs.Acknowledged.State.{State, with_new_rlc}
use Rattle.law_bearer.specs.AnyBearer.Calls.{Restart, goes as bearer_goes}
use Rattle.bearer_types.specs.declared.BearerConfig.{BearerConfig}
use Rattle.law_deliver.specs.AmDelivery.Drained.{IsDrained}
use Rattle.eps_sec.specs.declared.Keys.{Keys}
use Rattle.law_deliver.specs.AmFlow.Pair.{Pair, Step, happens, goes, am_pair_outset, IsGiven}
use Rattle.l2_types.specs.declared.Kind.TheVariants as kinds
use Rattle.l2_types.specs.declared.Side.TheVariants.{Nb, Ue}
use Rattle.pdcp_rx.specs.State.{restarted as restarted_receiving}
use Rattle.pdcp_tx.specs.State.{restarted as restarted_sending}
use Rattle.promises.specs.Events.{losses}
use Rattle.law_deliver.specs.SrbDelivery.Life.{BothBegin, MayHappen, AreLived, near_ups, far_ups}
use Rattle.law_deliver.specs.SrbDelivery.Life.{near_submits, far_submits}

-- ---- a life ends, and the next one begins

abbrev pub renewed_bearer : State → Keys → State
renewed_bearer b keys =
    with_new_rlc b.tx_config b.rx_config
    (record b.pdcp {
      tx = restarted_sending b.pdcp.tx keys;
      rx = restarted_receiving b.pdcp.rx keys;
    })

-- at an end: what RLC can still put together is dropped, so nothing goes up
pub record BeginsAnew (b : State) (keys : Keys) : Type 0 where
  pub left : bearer_goes (Am b) (Restart keys) ≡ Am (renewed_bearer b keys)
  pub none_up : ups_among (stopping (Am b)) ≡ []
  pub none_lost : losses (stopping (Am b)) ≡ []
  pub count : (renewed_bearer b keys).pdcp.tx.next ≡ 0
  pub awaited : (renewed_bearer b keys).pdcp.rx.next ≡ 0

pub record BothBeginAnew (near far : State) (keys : Keys) : Type 0 where
  pub near_anew : BeginsAnew near keys
  pub far_anew : BeginsAnew far keys
  pub both : BothBegin (renewed_bearer near keys) (renewed_bearer far keys)

abbrev pub NextLifeBegins : Type 0
NextLifeBegins = (near far : State) (steps : List Step) (keys : Keys) → BothBegin near far
    → AreLived (am_pair_outset near far) steps
    → BothBeginAnew (goes steps (am_pair_outset near far)).near.bearer
    (goes steps (am_pair_outset near far)).far.bearer keys

-- ---- the first life, as both ends are configured; a COUNT has 32 bits

pub record AreBothEnds (c : BearerConfig) (keys : Keys) (nb ue : State) : Type 0 where
  pub first : c.first ≤ 2 ^ 32
  pub kind : c.kind ≡ kinds.Srb
  pub nb_is : flow_of c.kind c keys Nb ≡ Am nb
  pub ue_is : flow_of c.kind c keys Ue ≡ Am ue

abbrev pub FirstLifeBegins : Type 0
FirstLifeBegins = (c : BearerConfig) (keys : Keys) (nb ue : State) → AreBothEnds c keys nb ue
    → BothBegin nb ue

-- ---- any lives

pub data LifeStep : Type 0 where
  InLife : Step → LifeStep
  Restarts : Keys → LifeStep

abbrev pub lives_on : Pair → LifeStep → Pair
lives_on p (InLife s) = happens p s
lives_on p (Restarts keys) =
    am_pair_outset (renewed_bearer p.near.bearer keys) (renewed_bearer p.far.bearer keys)

abbrev pub lives : List LifeStep → Pair → Pair
lives [] p = p
lives (x ∷ xs) p = lives xs (lives_on p x)

abbrev pub IsLiving : Pair → LifeStep → Type 0
IsLiving p (InLife s) = IsGiven p s × MayHappen p s
IsLiving p (Restarts keys) = Unit {0}

abbrev pub AreLiving : Pair → List LifeStep → Type 0
AreLiving p [] = Unit {0}
AreLiving p (x ∷ xs) = IsLiving p x × AreLiving (lives_on p x) xs

-- what comes of the running life, behind what had come of it before
abbrev pub since_by : (Pair → Step → List (List ℕ)) → List (List ℕ) → Pair → LifeStep
    → List (List ℕ)
since_by what before p (InLife s) = before ++ what p s
since_by what before p (Restarts keys) = []

abbrev pub since : (Pair → Step → List (List ℕ)) → List (List ℕ) → List LifeStep → Pair
    → List (List ℕ)
since what before [] p = before
since what before (x ∷ xs) p = since what (since_by what before p x) xs (lives_on p x)

-- in each life what has gone up at an end are the SDUs that the other submitted first in it; and
-- all, once it is drained
pub record AreOfThisLife (nb ue : State) (steps : List LifeStep) : Type 0 where
  pub down : AreFirstSdus (since far_ups [] steps (am_pair_outset nb ue))
      (since near_submits [] steps (am_pair_outset nb ue))
  pub up : AreFirstSdus (since near_ups [] steps (am_pair_outset nb ue))
      (since far_submits [] steps (am_pair_outset nb ue))
  pub all_down : IsDrained (lives steps (am_pair_outset nb ue)).near.bearer
      → since far_ups [] steps (am_pair_outset nb ue)
      ≡ since near_submits [] steps (am_pair_outset nb ue)
  pub all_up : IsDrained (lives steps (am_pair_outset nb ue)).far.bearer
      → since near_ups [] steps (am_pair_outset nb ue)
      ≡ since far_submits [] steps (am_pair_outset nb ue)

abbrev pub DeliversInEachLife : Type 0
DeliversInEachLife = (c : BearerConfig) (keys : Keys) (nb ue : State) (steps : List LifeStep)
    → AreBothEnds c keys nb ue → AreLiving (am_pair_outset nb ue) steps
    → AreOfThisLife nb ue steps
