-- Once a channel is drained at an end, all that its bearer took has gone up at the other.
use Rattle.std.proofs.Common.{◌≡◌, ℕ, zero, suc, true, refl, List, [], ◌∷◌, ◌++◌, map, append-nil, ap, sym, ◌∙◌}
use Rattle.std.specs.List.{list_all}
use Rattle.std.proofs.lemmas.Bool.{and_parts}
use Rattle.bearer.specs.declared.flow.Flow.{Flow}
use Rattle.bearer.specs.declared.flow.Flow.TheVariants.{Am}
use Rattle.bearer.specs.Bearer.{Of, Life}
use Rattle.bearer.specs.Sums.{is_drained}
use Rattle.bearer.specs.Acknowledged.State.{State}
use Rattle.law_bearer.specs.AnyBearer.Calls.{Step as BearerStep, run_bearer, reached as bearer_reached, ends}
use Rattle.law_bearer.specs.AnyBearer.Queue.{queue}
use Rattle.bearer_types.specs.declared.config.BearerConfig.{BearerConfig}
use Rattle.eps_sec.specs.declared.Keys.{Keys}
use Rattle.l2_node.specs.End.{End}
use Rattle.l2_node.specs.Finding.{find, bearer_at}
use Rattle.l2_node.specs.Sums.{is_drained as end_drained}
use Rattle.l2_types.specs.declared.side.Side.{Side}
use Rattle.l2_types.specs.declared.side.Side.TheVariants.{Nb, Ue}
use Rattle.law_node.specs.Holding.{flow}
use Rattle.pdcp_tx_store.specs.Waiting.{Waits}
use Rattle.bearer_types.specs.Sides.{other}
use Rattle.law_deliver.specs.AmFlow.Air.{outset}
use Rattle.law_deliver.specs.AmDelivery.Drained.{IsDrained as IsDrainedBearer}
use Rattle.law_deliver.specs.AmDelivery.Lives.{lives as pair_lives, over}
use Rattle.law_deliver.proofs.AmDelivery.Laws.{drained_has_delivered}
use Rattle.law_deliver.proofs.AmDelivery.Reached.{ends_are_reached}
use Rattle.law_deliver.specs.AmChannel.Delivery.{AmEndsBeginAlike, was_taken, steps_over, ups_at, taken_at}
use Rattle.law_deliver.specs.AmChannel.Drained.{DrainedEndsHaveDelivered, has_failed, IsDrained, HasDelivered}
use Rattle.law_deliver.specs.AmChannel.Lives.{AirStep, AreLiving, lives, end_at, all_calls}
use Rattle.law_deliver.proofs.AmChannel.Delivery.{first_of, stands_so, pair, begun, both_ends, walk, does_is, ups_is}
use Rattle.law_deliver.proofs.AmChannel.Delivery.{news_is, waits, taken_then, kept_is_told}
use Rattle.law_deliver.proofs.AmChannel.Ends.{ends_go_by_calls, are_calls, all_go}
use Rattle.law_deliver.proofs.AmChannel.Pairs.{own, ups_in_at, news_in_at}

-- a bearer of an end that is drained
drained_so : (l : ℕ) (e : End) (b : State) → flow l e ≡ Am b → IsDrained l e → IsDrainedBearer b
unfolding is_drained
drained_so l e b is h = record {
  drained = sym (ap is_drained is) ∙ h.drained;
  unfailed = sym (ap has_failed is) ∙ h.unfailed;
}

record PairDelivers (up taken : List (List ℕ)) (b : State) : Type 0 where
  same : up ≡ taken
  gone : b.pdcp.tx.waiting ≡ []

module _ (l : ℕ) (c : BearerConfig) (keys : Keys) (nb ue : End) (h : AmEndsBeginAlike l c keys nb ue)
    (xs : List AirStep)
    (g : AreLiving l (outset nb ue) xs) where
  -- the bearer of an end that the steps leave
  abbrev last : Side → State
  last side = (own side (pair_lives (walk l c keys nb ue h xs g).steps (pair l c keys nb ue h))).bearer

  abbrev does : Side → List BearerStep
  does side = steps_over l (all_calls side xs (outset nb ue)) (end_at side (outset nb ue))

  pair_reaches : (side : Side) → bearer_reached c keys side (does side) ≡ Am (last side)
  pair_reaches Nb =
      ap (bearer_reached c keys Nb) (sym (does_is l c keys nb ue h Nb xs g))
      ∙ (ends_are_reached c keys (first_of c keys Nb) (first_of c keys Ue) (walk l c keys nb ue h xs g).steps
      (both_ends l c keys nb ue h)).nb_is
  pair_reaches Ue =
      ap (bearer_reached c keys Ue) (sym (does_is l c keys nb ue h Ue xs g))
      ∙ (ends_are_reached c keys (first_of c keys Nb) (first_of c keys Ue) (walk l c keys nb ue h xs g).steps
      (both_ends l c keys nb ue h)).ue_is

  last_is : (side : Side) → flow l (end_at side (lives xs (outset nb ue))) ≡ Am (last side)
  last_is side =
      let e = end_at side (outset nb ue) in
      let b = begun l c keys nb ue h side in
      ap (flow l) (ends_go_by_calls nb ue side xs)
      ∙ (all_go side l e (all_calls side xs (outset nb ue)) (stands_so side l c keys e b)
      (are_calls l side xs (outset nb ue) g)).bearer_is
      ∙ ap (run_bearer (does side)) b.bearer_is
      ∙ pair_reaches side

  pair_delivers : (from : Side) → IsDrainedBearer (last from)
      → PairDelivers (over (ups_in_at (other from)) (walk l c keys nb ue h xs g).steps (pair l c keys nb ue h))
      (over (news_in_at from) (walk l c keys nb ue h xs g).steps (pair l c keys nb ue h)) (last from)
  pair_delivers Nb d =
      let w = walk l c keys nb ue h xs g in
      let all =
      (drained_has_delivered c keys (first_of c keys Nb) (first_of c keys Ue) w.steps (both_ends l c keys nb ue h)
      w.living).down d in
      record { same = all.taken; gone = all.waits }
  pair_delivers Ue d =
      let w = walk l c keys nb ue h xs g in
      let all =
      (drained_has_delivered c keys (first_of c keys Nb) (first_of c keys Ue) w.steps (both_ends l c keys nb ue h)
      w.living).up d in
      record { same = all.taken; gone = all.waits }

  has_delivered : (from : Side) → IsDrained l (end_at from (lives xs (outset nb ue)))
      → HasDelivered l c.first from xs (outset nb ue)
  has_delivered from d =
      let cs = all_calls from xs (outset nb ue) in
      let e = end_at from (outset nb ue) in
      let b = begun l c keys nb ue h from in
      let r = pair_delivers from (drained_so l (end_at from (lives xs (outset nb ue))) (last from) (last_is from) d) in
      let same : ups_at l (other from) xs (outset nb ue) ≡ taken_at l from xs (outset nb ue) =
      sym (ups_is l c keys nb ue h (other from) xs g) ∙ r.same ∙ news_is l c keys nb ue h from xs g in
      let none : waits from l c keys e cs h.kind b ≡ [] =
      ap (λ (f : Flow). queue (ends f)) (pair_reaches from) ∙ ap (λ (ws : List Waits). map (λ w. w.sdu) ws) r.gone in
      let all : ups_at l (other from) xs (outset nb ue) ≡ was_taken l cs e ++ waits from l c keys e cs h.kind b =
      same ∙ sym (append-nil (was_taken l cs e)) ∙ ap (λ (more : List (List ℕ)). was_taken l cs e ++ more) (sym none) in
      let calls = are_calls l from xs (outset nb ue) g in
      record {
        taken = same;
        kept = all ∙ kept_is_told from l c keys e cs h.kind b calls;
        submitted = λ unlost. all ∙ taken_then from l c keys e cs h.kind b calls unlost;
      }

pub drained_channels_have_delivered : (l : ℕ) (c : BearerConfig) (keys : Keys) (nb ue : End) (from : Side)
    (steps : List AirStep)
    → AmEndsBeginAlike l c keys nb ue → AreLiving l (outset nb ue) steps
    → IsDrained l (end_at from (lives steps (outset nb ue)))
    → HasDelivered l c.first from steps (outset nb ue)
drained_channels_have_delivered l c keys nb ue from steps h g d = has_delivered l c keys nb ue h steps g from d

-- ---- of an end that is drained

all_drained : (bs : List (Of Life)) (at : ℕ) → list_all (λ b. is_drained b.state.flow) bs ≡ true
    → is_drained (bearer_at bs at).state.flow ≡ true
unfolding is_drained
all_drained [] at q = refl
all_drained (b ∷ bs) zero q = (and_parts (is_drained b.state.flow) (list_all (λ b. is_drained b.state.flow) bs) q).0
all_drained (b ∷ bs) (suc at) q =
    all_drained bs at (and_parts (is_drained b.state.flow) (list_all (λ b. is_drained b.state.flow) bs) q).1

pub channel_drained : (l : ℕ) (e : End) → end_drained e ≡ true → is_drained (flow l e) ≡ true
unfolding end_drained
channel_drained l e q = all_drained e.bearers (find l e.bearers) q

pub drained_ends_have_delivered : DrainedEndsHaveDelivered
drained_ends_have_delivered l c keys nb ue from steps h g d unfailed =
    let e = end_at from (lives steps (outset nb ue)) in
    drained_channels_have_delivered l c keys nb ue from steps h g
    (record { drained = channel_drained l e d; unfailed = unfailed })
