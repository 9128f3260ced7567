-- Unacknowledged data bearers deliver while losses are short, as the records tell.
use Rattle.std.proofs.Common.{◌≡◌, ◌⊎◌, inl, inr, ℕ, Bool, true, false, Option, List, [], ◌∷◌, Some, refl, ap, sym}
use Rattle.std.proofs.Common.{subst, ◌∙◌}
use Rattle.std.specs.Prelude.{option_map}
use Rattle.air_record.specs.declared.record.State.{State}
use Rattle.air_record.specs.declared.record.State.TheVariants.{Long, Short}
use Rattle.air_run.specs.Sums.{state_of}
use Rattle.air_text.specs.Groups.{Group}
use Rattle.bearer_types.specs.declared.config.BearerConfig.{BearerConfig}
use Rattle.bearer_types.specs.Sides.{sent_by}
use Rattle.l2_types.specs.declared.channel.Kind.TheVariants.{Um}
use Rattle.l2_types.specs.declared.side.Side.{Side}
use Rattle.law_words.specs.Lists.{IsSubsequence}
use Rattle.law_deliver.specs.UmChannel.Delivery.{UmEndsBeginAlike}
use Rattle.um_losses.specs.Flow.{Flow}
use Rattle.um_losses.specs.Losses.{is_long}
use Rattle.um_losses.specs.declared.flow.Happening.{Happening}
use Rattle.um_losses.specs.Told.{all_after}
use Rattle.um_losses.proofs.Told.{long_is}
use Rattle.law_deliver.specs.UmGaps.Delivery.{first_flow}
use Rattle.law_deliver.proofs.UmGaps.Delivery.{channels_deliver_as_told}
use Rattle.promises.specs.Drained.{has_failed}
use Rattle.law_run.specs.Losses.{state_told, DeliversShort, AllDeliverShort, DeliversWhileShort}
use Rattle.law_run.specs.Order.{state_behind, KeepsOrder}
use Rattle.law_run.proofs.Delivering.{IsDelivering, is_delivering, as_told, went_up_is, was_submitted_is}

um_alike : (l : ℕ) (c : BearerConfig) (past : List Group) (d : IsDelivering l c past) → c.kind ≡ Um
    → UmEndsBeginAlike l c d.keys d.nb d.ue
um_alike l c past d kind = record {
  kind = kind;
  config = d.config;
  first = d.first;
  nb_begun = d.nb_begun;
  ue_begun = d.ue_begun;
}

-- an unacknowledged flow is short or long
short_or_long : (long failed : Bool) → (state_of (Some long) failed ≡ Short) ⊎ (state_of (Some long) failed ≡ Long)
short_or_long true failed = inr refl
short_or_long false failed = inl refl

not_long : (long failed : Bool) → state_of (Some long) failed ≡ Short → long ≡ false
not_long true failed e = let no : Long ≡ Short = e in absurd cc
not_long false failed e = refl

delivers_short : (l : ℕ) (c : BearerConfig) (past : List Group) (from : Side) → IsDelivering l c past → c.kind ≡ Um
    → DeliversShort from l past
delivers_short l c past from d kind =
    let h = d.lived.by in
    let both = um_alike l c past d kind in
    let flow = all_after (d.haps from) (first_flow from l c) in
    let failed = has_failed from l past in
    let told : is_long (sent_by from) l (state_behind past).losses.flows ≡ Some flow.gaps.long =
    long_is (sent_by from) l (state_behind past).losses.flows
    ∙ ap (option_map (λ (f : Flow). f.gaps.long)) (d.flows kind from) in
    let state : state_told from l past ≡ state_of (Some flow.gaps.long) failed =
    ap (λ (o : Option Bool). state_of o failed) told in
    record {
      is_told = subst (λ (s : State). (s ≡ Short) ⊎ (s ≡ Long)) (sym state) (short_or_long flow.gaps.long failed);
      in_order = λ short.
          as_told (λ xs ys. IsSubsequence xs ys) (went_up_is l c past d from) (was_submitted_is l c past d from)
          (channels_deliver_as_told l c d.keys d.nb d.ue from h.steps both h.living
          (ap (λ (hs : List Happening). (all_after hs (first_flow from l c)).gaps.long) (d.lived.whats_are kind from)
          ∙ not_long flow.gaps.long failed (sym state ∙ short)));
    }

all_deliver_short : (past : List Group) → KeepsOrder past → AllDeliverShort past
all_deliver_short past order from l c e kind own =
    delivers_short l c past from (is_delivering l past c order e own) kind

pub delivers_while_short : (past : List Group) → KeepsOrder past → DeliversWhileShort past
delivers_while_short [] order = tt
delivers_while_short (g ∷ past) (right, order) =
    (all_deliver_short (g ∷ past) (right, order), delivers_while_short past order)
