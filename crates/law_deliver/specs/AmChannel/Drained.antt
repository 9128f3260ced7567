-- What a channel of acknowledged data has delivered once nothing is left of it at an end (TS 36.322
-- 5.1.3, TS 36.323 5.1, 5.2).
use Rattle.std.specs.Prelude.{◌≡◌, ℕ, Bool, true, false, List}
use Rattle.bearer.specs.declared.flow.Flow.{Flow}
use Rattle.bearer.specs.declared.flow.Flow.TheVariants.{Tm, Um, Am}
use Rattle.bearer.specs.Sums.{is_drained}
use Rattle.bearer_types.specs.declared.config.BearerConfig.{BearerConfig}
use Rattle.eps_sec.specs.declared.Keys.{Keys}
use Rattle.l2_node.specs.End.{End}
use Rattle.l2_node.specs.Sums.{is_drained as end_drained}
use Rattle.l2_types.specs.declared.side.Side.{Side}
use Rattle.law_node.specs.Holding.{flow}
use Rattle.law_node.specs.Telling.{told_over}
use Rattle.bearer_types.specs.Sides.{other}
use Rattle.law_deliver.specs.AmFlow.Air.{Air, outset}
use Rattle.law_deliver.specs.AmChannel.Delivery.{AmEndsBeginAlike, ups_at, taken_at, submitted_at}
use Rattle.law_deliver.specs.AmChannel.Delivery.{DiscardsNoneAt}
use Rattle.promises.specs.Taken.{kept_of}
use Rattle.law_deliver.specs.AmChannel.Lives.{AirStep, AreLiving, lives, end_at, all_calls}

-- only an acknowledged sender fails, at its limit of retransmissions (TS 36.322 5.2.1)
abbrev pub has_failed : Flow → Bool
has_failed (Tm b) = false
has_failed (Um b) = false
has_failed (Am b) = b.tx.failed

-- the channel is drained at an end, and not because its sender failed
pub record IsDrained (l : ℕ) (e : End) : Type 0 where
  pub drained : is_drained (flow l e) ≡ true
  pub unfailed : has_failed (flow l e) ≡ false

-- from an end to the other: what went up at the other are all SDUs that the bearer of the one took,
-- which are all that were submitted there but those that it discarded, and where it discarded none
-- all of them: in their order, each once and unchanged
pub record HasDelivered (l first : ℕ) (from : Side) (steps : List AirStep) (a : Air) : Type 0 where
  pub taken : ups_at l (other from) steps a ≡ taken_at l from steps a
  pub kept : ups_at l (other from) steps a
      ≡ kept_of l first (told_over (all_calls from steps a) (end_at from a))
      (submitted_at l from steps a)
  pub submitted : DiscardsNoneAt l from steps a
      → ups_at l (other from) steps a ≡ submitted_at l from steps a

abbrev pub DrainedChannelsHaveDelivered : Type 0
DrainedChannelsHaveDelivered =
    (l : ℕ) (c : BearerConfig) (keys : Keys) (nb ue : End) (from : Side) (steps : List AirStep)
    → AmEndsBeginAlike l c keys nb ue → AreLiving l (outset nb ue) steps
    → IsDrained l (end_at from (lives steps (outset nb ue)))
    → HasDelivered l c.first from steps (outset nb ue)

-- so on each such channel of an end that is drained
abbrev pub DrainedEndsHaveDelivered : Type 0
DrainedEndsHaveDelivered =
    (l : ℕ) (c : BearerConfig) (keys : Keys) (nb ue : End) (from : Side) (steps : List AirStep)
    → AmEndsBeginAlike l c keys nb ue → AreLiving l (outset nb ue) steps
    → end_drained (end_at from (lives steps (outset nb ue))) ≡ true
    → has_failed (flow l (end_at from (lives steps (outset nb ue)))) ≡ false
    → HasDelivered l c.first from steps (outset nb ue)
