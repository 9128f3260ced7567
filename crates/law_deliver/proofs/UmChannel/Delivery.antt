-- What a channel of unacknowledged data delivers.
use Rattle.std.proofs.Common.{◌≡◌, ℕ, List, [], length, ap, sym, subst, ◌∙◌}
use Rattle.bearer_types.specs.Sides.{other}
use Rattle.bearer.specs.Bearer.{flow_of}
use Rattle.bearer.specs.declared.flow.Flow.{Flow}
use Rattle.bearer.specs.declared.flow.Flow.TheVariants.{Um}
use Rattle.bearer.specs.Unacknowledged.State.{State, fresh}
use Rattle.law_bearer.specs.AnyBearer.Queue.{all_news, all_submitted as all_submits}
use Rattle.law_bearer.proofs.AnyBearer.Between.{IsBetween}
use Rattle.bearer_types.specs.declared.config.BearerConfig.{BearerConfig}
use Rattle.law_deliver.specs.AmChannel.Delivery.{HasBegun, ups_at, submitted_at, taken_at, steps_over}
use Rattle.law_deliver.specs.AmChannel.Lives.{AirStep, AreLiving as AreLivingAir, end_at, all_calls}
use Rattle.law_deliver.proofs.AmChannel.Delivery.{stands_so}
use Rattle.law_deliver.proofs.AmChannel.Ends.{are_calls, all_go, all_ups as ups_through}
use Rattle.law_deliver.proofs.AmChannel.Submitted.{submitted_is}
use Rattle.eps_sec.specs.declared.Keys.{Keys}
use Rattle.law_deliver.specs.AmFlow.Air.{outset}
use Rattle.law_deliver.proofs.AmFlow.Ups.{come_between, between_at}
use Rattle.l2_node.specs.End.{End}
use Rattle.l2_num.specs.Ascending.{AreBetween}
use Rattle.l2_types.specs.declared.Kind.{Kind}
use Rattle.l2_types.specs.declared.Kind.TheVariants as kinds
use Rattle.l2_types.specs.declared.side.Side.{Side}
use Rattle.l2_types.specs.declared.side.Side.TheVariants.{Nb, Ue}
use Rattle.law_node.specs.Holding.{flow}
use Rattle.law_words.specs.Lists.{IsSubsequence}
use Rattle.law_deliver.specs.UmDelivery.Delivery.{AreBothEnds}
use Rattle.law_deliver.specs.UmDelivery.Lives.{ended, last, all_ups, all_taken, all_submitted}
use Rattle.law_deliver.proofs.UmDelivery.Laws.{delivers_what_came, delivers_in_order}
use Rattle.law_words.specs.Lists.{those}
use Rattle.law_deliver.specs.UmChannel.Delivery.{UmEndsBeginAlike, direction_from, AreShortFrom, places_from}
use Rattle.law_deliver.specs.UmChannel.Delivery.{IsWhatCameOnChannel}
use Rattle.law_deliver.specs.UmChannel.Delivery.{ChannelsDeliverWhatCame, ChannelsDeliverInOrder}
use Rattle.law_deliver.specs.UmChannel.Pairs.{Walk, walk}
use Rattle.law_deliver.proofs.UmChannel.Bearers.{own, steps_through, there_ups, back_ups, there_news, back_news}
use Rattle.law_deliver.proofs.UmChannel.Bearers.{there_submits, back_submits}
use Rattle.law_deliver.proofs.UmChannel.Walk.{Stands, WalksOn, begins_so, walks_on}

first_is : (c : BearerConfig) (keys : Keys) (side : Side) → c.kind ≡ kinds.Um
    → flow_of c.kind c keys side ≡ Um (fresh c keys side)
first_is c keys side k = ap (λ (x : Kind). flow_of x c keys side) k

module _ (l : ℕ) (c : BearerConfig) (keys : Keys) (nb ue : End) (h : UmEndsBeginAlike l c keys nb ue) where
  abbrev near : State
  near = fresh c keys Nb

  abbrev far : State
  far = fresh c keys Ue

  begun : (side : Side) → HasBegun side l c keys (end_at side (outset nb ue))
  begun Nb = h.nb_begun
  begun Ue = h.ue_begun

  own_is : (side : Side) → flow l (end_at side (outset nb ue)) ≡ Um (own side near far)
  own_is Nb = h.nb_begun.bearer_is ∙ first_is c keys Nb h.kind
  own_is Ue = h.ue_begun.bearer_is ∙ first_is c keys Ue h.kind

  between : (side : Side) → IsBetween l (Um (own side near far))
  between side =
      let b = begun side in
      let e = end_at side (outset nb ue) in
      subst (λ (f : Flow). IsBetween l f) (own_is side) (between_at l e.bearers b.there (come_between side e b.come))

  both_ends : AreBothEnds c keys near far
  both_ends = record {
    config = h.config;
    first = h.first;
    kind = h.kind;
    nb_is = first_is c keys Nb h.kind;
    ue_is = first_is c keys Ue h.kind;
  }

  stands : Stands l (outset nb ue) near far []
  stands = record {
    nb = begins_so Nb l nb near h.nb_begun.come h.nb_begun.there (own_is Nb);
    ue = begins_so Ue l ue far h.ue_begun.come h.ue_begun.there (own_is Ue);
    living = record { given = tt; near_accepts = tt; far_accepts = tt };
  }

  module _ (xs : List AirStep) (g : AreLivingAir l (outset nb ue) xs) where
    abbrev w : Walk
    w = walk l [] xs (outset nb ue)

    walks : WalksOn l (outset nb ue) near far [] xs
    walks = walks_on l xs (outset nb ue) near far [] g stands

    does_is : (side : Side) → steps_through side near far w.lives w.steps
        ≡ steps_over l (all_calls side xs (outset nb ue)) (end_at side (outset nb ue))
    does_is Nb = walks.nb_does
    does_is Ue = walks.ue_does

    ups_is : (side : Side) → ups_through l (Um (own side near far)) (steps_through side near far w.lives w.steps)
        ≡ ups_at l side xs (outset nb ue)
    ups_is side =
        let cs = all_calls side xs (outset nb ue) in
        let e = end_at side (outset nb ue) in
        ap (ups_through l (Um (own side near far))) (does_is side)
        ∙ ap (λ (f : Flow). ups_through l f (steps_over l cs e)) (sym (own_is side))
        ∙ sym (all_go side l e cs (stands_so side l c keys e (begun side))
        (are_calls l side xs (outset nb ue) g)).ups_are

    news_is : (side : Side) → all_news (Um (own side near far)) (steps_through side near far w.lives w.steps)
        ≡ taken_at l side xs (outset nb ue)
    news_is side =
        ap (all_news (Um (own side near far))) (does_is side)
        ∙ ap (λ (f : Flow). all_news f (steps_over l (all_calls side xs (outset nb ue)) (end_at side (outset nb ue))))
        (sym (own_is side))

    submits_is : (side : Side) → all_submits (steps_through side near far w.lives w.steps)
        ≡ submitted_at l side xs (outset nb ue)
    submits_is side = ap all_submits (does_is side)
        ∙ sym (submitted_is l (all_calls side xs (outset nb ue)) (end_at side (outset nb ue)))

    -- ---- of both ends of the bearer

    ups_are : (from : Side)
        → all_ups (ended (direction_from from) near far w.lives) (last (direction_from from) near far w.lives w.steps)
        ≡ ups_at l (other from) xs (outset nb ue)
    ups_are Nb = there_ups l w.lives near far w.steps (between Ue) ∙ ups_is Ue
    ups_are Ue = back_ups l w.lives near far w.steps (between Nb) ∙ ups_is Nb

    news_are : (from : Side)
        → all_taken (ended (direction_from from) near far w.lives)
        (last (direction_from from) near far w.lives w.steps) ≡ taken_at l from xs (outset nb ue)
    news_are Nb = there_news l w.lives near far w.steps (between Nb) ∙ news_is Nb
    news_are Ue = back_news l w.lives near far w.steps (between Ue) ∙ news_is Ue

    submits_are : (from : Side)
        → all_submitted (ended (direction_from from) near far w.lives)
        (last (direction_from from) near far w.lives w.steps) ≡ submitted_at l from xs (outset nb ue)
    submits_are Nb = there_submits w.lives near far w.steps ∙ submits_is Nb
    submits_are Ue = back_submits w.lives near far w.steps ∙ submits_is Ue

    what_came : (from : Side) → AreShortFrom from l c keys xs (outset nb ue)
        → IsWhatCameOnChannel l c keys from xs (outset nb ue)
    what_came from short =
        let came = delivers_what_came c keys near far w.lives w.steps (direction_from from) both_ends walks.living
        short in
        let places = places_from from l c keys xs (outset nb ue) in
        record {
          order = subst (λ (taken : List (List ℕ)). AreBetween 0 places (length taken)) (news_are from) came.order;
          ups_are = sym (ups_are from) ∙ came.ups_are ∙ ap (those places) (news_are from);
        }

    some_came : (from : Side) → AreShortFrom from l c keys xs (outset nb ue)
        → IsSubsequence (ups_at l (other from) xs (outset nb ue)) (submitted_at l from xs (outset nb ue))
    some_came from short =
        let came = delivers_in_order c keys near far w.lives w.steps (direction_from from) both_ends walks.living
        short in
        subst (λ (up : List (List ℕ)). IsSubsequence up (submitted_at l from xs (outset nb ue))) (ups_are from)
        (subst
        (IsSubsequence (all_ups (ended (direction_from from) near far w.lives)
        (last (direction_from from) near far w.lives w.steps))) (submits_are from) came.submitted)

pub channels_deliver_what_came : ChannelsDeliverWhatCame
channels_deliver_what_came l c keys nb ue from steps h g short = what_came l c keys nb ue h steps g from short

pub channels_deliver_in_order : ChannelsDeliverInOrder
channels_deliver_in_order l c keys nb ue from steps h g short = some_came l c keys nb ue h steps g from short
