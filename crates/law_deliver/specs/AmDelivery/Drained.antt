-- What a bearer of acknowledged data has delivered once nothing is left of it (TS 36.322 5.1.3, TS
-- 36.323 5.1, 5.2).
use Rattle.std.specs.Prelude.{◌≡◌, ℕ, true, false, List, []}
use Rattle.bearer.specs.Acknowledged.State.{State}
use Rattle.bearer.specs.Acknowledged.Sums.{is_drained}
use Rattle.bearer_types.specs.declared.BearerConfig.{BearerConfig}
use Rattle.eps_sec.specs.declared.Keys.{Keys}
use Rattle.law_deliver.specs.AmFlow.Pair.{am_pair_outset}
use Rattle.law_deliver.specs.AmDelivery.Delivery.{AreBothEnds}
use Rattle.law_deliver.specs.AmDelivery.Ends.{near_submitted_in, far_submitted_in, near_drops_in}
use Rattle.law_deliver.specs.AmDelivery.Ends.{far_drops_in}
use Rattle.law_deliver.specs.AmDelivery.Lives.{LifeStep, lives, AreLiving, far_ups_in, near_ups_in}
use Rattle.law_deliver.specs.AmDelivery.Lives.{near_news_in, far_news_in, over}

-- an end is drained, and not because its sender failed
pub record IsDrained (b : State) : Type 0 where
  pub drained : is_drained b ≡ true
  pub unfailed : b.tx.failed ≡ false

-- all SDUs that it took have gone up at the other end: in their order, each once and unchanged;
-- none waits, so where none was discarded they are all that were submitted
pub record AllAreUp (b : State) (ups news drops submits : List (List ℕ)) : Type 0 where
  pub taken : ups ≡ news
  pub waits : b.pdcp.tx.waiting ≡ []
  pub submitted : drops ≡ [] → ups ≡ submits

pub record DeliverAll (nb ue : State) (steps : List LifeStep) : Type 0 where
  pub down : IsDrained (lives steps (am_pair_outset nb ue)).near.bearer
      → AllAreUp (lives steps (am_pair_outset nb ue)).near.bearer
      (over far_ups_in steps (am_pair_outset nb ue))
      (over near_news_in steps (am_pair_outset nb ue))
      (over near_drops_in steps (am_pair_outset nb ue))
      (over near_submitted_in steps (am_pair_outset nb ue))
  pub up : IsDrained (lives steps (am_pair_outset nb ue)).far.bearer
      → AllAreUp (lives steps (am_pair_outset nb ue)).far.bearer
      (over near_ups_in steps (am_pair_outset nb ue))
      (over far_news_in steps (am_pair_outset nb ue))
      (over far_drops_in steps (am_pair_outset nb ue))
      (over far_submitted_in steps (am_pair_outset nb ue))

abbrev pub DrainedHasDelivered : Type 0
DrainedHasDelivered = (c : BearerConfig) (keys : Keys) (nb ue : State) (steps : List LifeStep)
    → AreBothEnds c keys nb ue → AreLiving (am_pair_outset nb ue) steps
    → DeliverAll nb ue steps
