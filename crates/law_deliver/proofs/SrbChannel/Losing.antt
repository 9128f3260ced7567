-- What an end tells of losses on a channel, by the steps of its bearer.
use Rattle.std.proofs.Common.{◌≡◌, ℕ, List, [], ◌∷◌, ◌++◌, append-nil, append_assoc, inl, inr, refl, ap, sym, subst}
use Rattle.std.proofs.Common.{◌∙◌}
use Rattle.std.specs.List.{AllByRecursion}
use Rattle.std.proofs.lemmas.List.Elements.{filter-append}
use Rattle.bearer.specs.declared.flow.Flow.{Flow}
use Rattle.bearer.specs.declared.flow.Flow.TheVariants.{Am}
use Rattle.bearer.specs.Lives.{stopping}
use Rattle.bearer.specs.Acknowledged.State.{State}
use Rattle.law_bearer.specs.AnyBearer.Calls.{Call as BearerCall, Step as BearerStep, Calls as CallsIt, Restart}
use Rattle.law_bearer.specs.AnyBearer.Calls.{after as called, goes as bearer_goes, run_bearer}
use Rattle.law_bearer.proofs.AnyBearer.Between.{IsBetween}
use Rattle.bearer_types.specs.declared.event.Event.{Event}
use Rattle.l2_node.specs.End.{End}
use Rattle.l2_types.specs.declared.side.Side.{Side}
use Rattle.law_node.specs.Calls.{Call, after}
use Rattle.law_node.specs.Holding.{flow}
use Rattle.law_node.specs.Telling.{told_of, told_over}
use Rattle.law_deliver.specs.AmChannel.Delivery.{steps_in, steps_over}
use Rattle.law_deliver.proofs.AmChannel.Acting.{as_steps}
use Rattle.law_deliver.proofs.AmChannel.Bearers.{tells_so}
use Rattle.law_deliver.proofs.AmChannel.Ends.{IsCall, in_life, all_go}
use Rattle.law_deliver.proofs.AmChannel.Pairs.{own}
use Rattle.law_deliver.specs.AmFlow.Channels.{calls_of}
use Rattle.law_deliver.specs.AmFlow.Pair.{Pair, Step, happens}
use Rattle.law_deliver.specs.AmFlow.Ups.{tells_in, tells_over}
use Rattle.promises.specs.Events.{told_on, is_lost, losses}
use Rattle.law_deliver.proofs.AmFlow.Events.{told_then}
use Rattle.law_deliver.proofs.AmFlow.Sending.{is_called}
use Rattle.law_deliver.proofs.AmFlow.Ups.{Stands, stands_more, tells_of, the_end}
use Rattle.law_deliver.proofs.AmDelivery.Reached.{Turns}
use Rattle.law_deliver.specs.SrbDelivery.Life.{over}
use Rattle.law_deliver.specs.SrbDelivery.Losses.{losses_by}
use Rattle.law_deliver.proofs.SrbChannel.Sums.{calls_side, does, between_after, turns, call_new}

-- ---- by the steps of a bearer

abbrev lost_in : ℕ → Flow → BearerStep → List Event
lost_in l f (CallsIt c) = losses (tells_in l f c)
lost_in l f (Restart keys) = losses (stopping f)

abbrev pub all_losses : ℕ → Flow → List BearerStep → List Event
all_losses l f [] = []
all_losses l f (x ∷ xs) = lost_in l f x ++ all_losses l (bearer_goes f x) xs

losses_more : (l : ℕ) (xs ys : List BearerStep) (f : Flow)
    → all_losses l f (xs ++ ys) ≡ all_losses l f xs ++ all_losses l (run_bearer xs f) ys
losses_more l [] ys f = refl
losses_more l (x ∷ xs) ys f =
    ap (λ (found : List Event). lost_in l f x ++ found) (losses_more l xs ys (bearer_goes f x))
    ∙ sym (append_assoc (lost_in l f x) (all_losses l (bearer_goes f x) xs)
    (all_losses l (run_bearer xs (bearer_goes f x)) ys))

of_life : (l : ℕ) (cs : List BearerCall) (f : Flow) → losses (tells_over l f cs) ≡ all_losses l f (as_steps cs)
of_life l [] f = refl
of_life l (c ∷ cs) f = filter-append is_lost (tells_in l f c) (tells_over l (called f c) cs)
    ∙ ap (λ (found : List Event). losses (tells_in l f c) ++ found) (of_life l cs (called f c))

-- ---- of an end

one_loses : (side : Side) (l : ℕ) (e : End) (c : Call) → Stands side l e → IsCall l c
    → losses (told_on l (told_of e c)) ≡ all_losses l (flow l e) (steps_in l e c)
one_loses side l e c s (inl g) =
    ap losses (tells_of side l e c s g.1).told_is ∙ of_life l (calls_of l e c) (flow l e)
    ∙ ap (all_losses l (flow l e)) (sym (in_life l e c g.1))
one_loses side l e c s (inr (keys, q)) =
    subst (λ (d : Call). losses (told_on l (told_of e d)) ≡ all_losses l (flow l e) (steps_in l e d)) (sym q)
    (ap losses (the_end side l e keys s).told_is ∙ sym (append-nil (losses (stopping (flow l e)))))

bearer_on : (side : Side) (l : ℕ) (e : End) (c : Call) → Stands side l e → IsCall l c
    → flow l (after e c) ≡ run_bearer (steps_in l e c) (flow l e)
bearer_on side l e c s g = (all_go side l e (c ∷ []) s (g, tt)).bearer_is
    ∙ ap (λ (xs : List BearerStep). run_bearer xs (flow l e)) (append-nil (steps_in l e c))

pub end_losses : (side : Side) (l : ℕ) (cs : List Call) (e : End) → Stands side l e → AllByRecursion (IsCall l) cs
    → losses (told_on l (told_over cs e)) ≡ all_losses l (flow l e) (steps_over l cs e)
end_losses side l [] e s g = refl
end_losses side l (c ∷ cs) e s g =
    let one = call_new l e c g.0 in
    let rest = end_losses side l cs (after e c) (stands_more side l e c s one.0 one.1) g.1 in
    let more = steps_over l cs (after e c) in
    ap losses (told_then l (told_of e c) (told_over cs (after e c)))
    ∙ filter-append is_lost (told_on l (told_of e c)) (told_on l (told_over cs (after e c)))
    ∙ ap (λ (found : List Event). found ++ losses (told_on l (told_over cs (after e c)))) (one_loses side l e c s g.0)
    ∙ ap (λ (found : List Event). all_losses l (flow l e) (steps_in l e c) ++ found)
    (rest ∙ ap (λ (f : Flow). all_losses l f more) (bearer_on side l e c s g.0))
    ∙ sym (losses_more l (steps_in l e c) more (flow l e))

-- ---- of an end of a pair

abbrev pub losses_side : Side → Pair → Step → List Event
losses_side side p s = losses_by (own side p).bearer (calls_side side p s)

record Few (l : ℕ) (cs : List BearerCall) (b d : State) (xs : List BearerStep) : Type 0 where
  between : IsBetween l (Am d)
  losses_are : all_losses l (Am b) (as_steps cs ++ xs) ≡ losses_by b cs ++ all_losses l (Am d) xs

few_so : (l : ℕ) (cs : List BearerCall) (b d : State) (xs : List BearerStep) → Turns b cs d → IsBetween l (Am b)
    → Few l cs b d xs
few_so l [] b d xs t k = subst (λ (x : State). Few l [] b x xs) (sym t) (record { between = k; losses_are = refl })
few_so l (c ∷ []) b d xs t k =
    subst (λ (x : State). Few l (c ∷ []) b x xs) (sym t)
    (record {
      between = subst (IsBetween l) (is_called b c) (between_after l (Am b) c k);
      losses_are = ap (λ (told : List Event). losses told ++ all_losses l (called (Am b) c) xs)
          (sym (tells_so l b c k.own)) ∙ ap (λ (f : Flow). losses_by b (c ∷ []) ++ all_losses l f xs) (is_called b c);
    })
few_so l (c ∷ x ∷ cs) b d xs t k = absurd t

pub pair_losses : (l : ℕ) (side : Side) (ss : List Step) (p : Pair) → IsBetween l (Am (own side p).bearer)
    → over (losses_side side) ss p ≡ all_losses l (Am (own side p).bearer) (does side ss p)
pair_losses l side [] p k = refl
pair_losses l side (s ∷ ss) p k =
    let q : Pair = happens p s in
    let one = few_so l (calls_side side p s) (own side p).bearer (own side q).bearer (does side ss q) (turns side p s)
    k in
    ap (λ (found : List Event). losses_side side p s ++ found) (pair_losses l side ss q one.between)
    ∙ sym one.losses_are
