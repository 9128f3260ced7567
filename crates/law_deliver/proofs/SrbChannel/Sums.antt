-- What goes up and what is submitted at an end of a pair, by the calls of its bearer.
use Rattle.std.proofs.Common.{◌≡◌, ℕ, true, false, inl, inr, List, [], ◌∷◌, ◌++◌, append_assoc, refl, ap, sym, subst}
use Rattle.std.proofs.Common.{◌∙◌}
use Rattle.bearer.specs.declared.flow.Flow.{Flow}
use Rattle.bearer.specs.declared.flow.Flow.TheVariants.{Am}
use Rattle.bearer.specs.Acknowledged.State.{State}
use Rattle.law_bearer.specs.AnyBearer.Calls.{Call, Submit, Take, Arrive, Expire, Tick, SetDiscard, Step as BearerStep}
use Rattle.law_bearer.specs.AnyBearer.Calls.{after}
use Rattle.law_bearer.specs.AnyBearer.Queue.{all_submitted}
use Rattle.law_bearer.proofs.AnyBearer.Between.{IsBetween, submits as submits_between, takes, arrives, expires}
use Rattle.law_bearer.proofs.AnyBearer.Between.{ticks_of, discards}
use Rattle.l2_types.specs.declared.side.Side.{Side}
use Rattle.l2_types.specs.declared.side.Side.TheVariants.{Nb, Ue}
use Rattle.law_bearer.specs.AmBearer.Calls.{tells, ups_among}
use Rattle.law_deliver.proofs.AmChannel.Acting.{as_steps, in_life_all}
use Rattle.law_deliver.proofs.AmChannel.Bearers.{call_ups}
use Rattle.law_deliver.proofs.AmChannel.Ends.{IsCall, all_ups}
use Rattle.law_deliver.specs.AmFlow.Ups.{IsNew}
use Rattle.l2_node.specs.End.{End}
use Rattle.law_node.specs.Calls.{Call as EndCall, IsGiven as IsGivenCall}
use Rattle.law_deliver.proofs.AmChannel.Pairs.{own, all_does}
use Rattle.law_deliver.specs.AmDelivery.Ends.{submitted_by}
use Rattle.law_deliver.specs.AmDelivery.Lives.{near_calls, far_calls, ups_by}
use Rattle.law_deliver.proofs.AmDelivery.Reached.{Turns, near_turns, far_turns}
use Rattle.law_deliver.specs.AmFlow.Pair.{Pair, Step, happens, goes}
use Rattle.law_deliver.proofs.AmFlow.Sending.{is_called}
use Rattle.law_deliver.specs.SrbDelivery.Life.{over}

-- ---- at a side

abbrev pub calls_side : Side → Pair → Step → List Call
calls_side Nb = near_calls
calls_side Ue = far_calls

abbrev pub ups_side : Side → Pair → Step → List (List ℕ)
ups_side side p s = ups_by (own side p).bearer (calls_side side p s)

abbrev pub submits_side : Side → Pair → Step → List (List ℕ)
submits_side side p s = submitted_by (calls_side side p s)

-- the steps of its bearer
abbrev pub does : Side → List Step → Pair → List BearerStep
does side ss p = over (λ q s. as_steps (calls_side side q s)) ss p

does_so : (side : Side) (ss : List Step) (p : Pair) → does side ss p ≡ all_does side (in_life_all ss) p
does_so Nb [] p = refl
does_so Ue [] p = refl
does_so Nb (s ∷ ss) p = ap (λ (l : List BearerStep). as_steps (near_calls p s) ++ l) (does_so Nb ss (happens p s))
does_so Ue (s ∷ ss) p = ap (λ (l : List BearerStep). as_steps (far_calls p s) ++ l) (does_so Ue ss (happens p s))

pub does_as : (side : Side) (ss : List Step) (p : Pair) → does side ss p ≡ all_does side (in_life_all ss) p
does_as side ss p = does_so side ss p

pub does_more : (side : Side) (xs ys : List Step) (p : Pair)
    → does side (xs ++ ys) p ≡ does side xs p ++ does side ys (goes xs p)
does_more side [] ys p = refl
does_more side (x ∷ xs) ys p =
    ap (λ (l : List BearerStep). as_steps (calls_side side p x) ++ l) (does_more side xs ys (happens p x))
    ∙ sym (append_assoc (as_steps (calls_side side p x)) (does side xs (happens p x))
    (does side ys (goes xs (happens p x))))

-- ---- in a step it is called once or not at all

pub between_after : (l : ℕ) (f : Flow) (c : Call) → IsBetween l f → IsBetween l (after f c)
between_after l f (Submit sdu) k = submits_between l f sdu k
between_after l f (Take share held) k = takes l f share held k
between_after l f (Arrive pdu) k = arrives l f pdu k
between_after l f (Expire clock) k = expires l f clock k
between_after l f Tick k = ticks_of l f k
between_after l f (SetDiscard ttis) k = discards l f ttis k

record Few (l : ℕ) (cs : List Call) (b d : State) (xs : List BearerStep) : Type 0 where
  between : IsBetween l (Am d)
  ups_are : all_ups l (Am b) (as_steps cs ++ xs) ≡ ups_by b cs ++ all_ups l (Am d) xs
  submitted_are : all_submitted (as_steps cs ++ xs) ≡ submitted_by cs ++ all_submitted xs

few_so : (l : ℕ) (cs : List Call) (b d : State) (xs : List BearerStep) → Turns b cs d → IsBetween l (Am b)
    → Few l cs b d xs
few_so l [] b d xs t k =
    subst (λ (x : State). Few l [] b x xs) (sym t) (record { between = k; ups_are = refl; submitted_are = refl })
few_so l (c ∷ []) b d xs t k =
    subst (λ (x : State). Few l (c ∷ []) b x xs) (sym t)
    (record {
      between = subst (IsBetween l) (is_called b c) (between_after l (Am b) c k);
      ups_are = ap (λ (up : List (List ℕ)). up ++ all_ups l (after (Am b) c) xs) (sym (call_ups l b c k))
          ∙ ap (λ (f : Flow). ups_among (tells b c) ++ all_ups l f xs) (is_called b c);
      submitted_are = refl;
    })
few_so l (c ∷ x ∷ cs) b d xs t k = absurd t

pub turns : (side : Side) (p : Pair) (s : Step)
    → Turns (own side p).bearer (calls_side side p s) (own side (happens p s)).bearer
turns Nb p s = near_turns p s
turns Ue p s = far_turns p s

pub record Sums (l : ℕ) (side : Side) (ss : List Step) (p : Pair) : Type 0 where
  pub ups_are : over (ups_side side) ss p ≡ all_ups l (Am (own side p).bearer) (does side ss p)
  pub submitted_are : over (submits_side side) ss p ≡ all_submitted (does side ss p)

pub sums : (l : ℕ) (side : Side) (ss : List Step) (p : Pair) → IsBetween l (Am (own side p).bearer) → Sums l side ss p
sums l side [] p k = record { ups_are = refl; submitted_are = refl }
sums l side (s ∷ ss) p k =
    let q : Pair = happens p s in
    let one = few_so l (calls_side side p s) (own side p).bearer (own side q).bearer (does side ss q) (turns side p s)
    k in
    let rest = sums l side ss q one.between in
    record {
      ups_are = ap (λ (up : List (List ℕ)). ups_side side p s ++ up) rest.ups_are ∙ sym one.ups_are;
      submitted_are = ap (λ (sdus : List (List ℕ)). submits_side side p s ++ sdus) rest.submitted_are
          ∙ sym one.submitted_are;
    }

-- ---- a call of a life, or a move, adds no bearer of the channel

pub call_new : (l : ℕ) (e : End) (c : EndCall) → IsCall l c → IsGivenCall c × IsNew l e c
call_new l e c (inl g) = (g.0, λ q. let no : true ≡ false = sym q ∙ g.1.adds_none in absurd cc)
call_new l e c (inr (keys, q)) =
    subst (λ (d : EndCall). IsGivenCall d × IsNew l e d) (sym q) (tt, λ p. let no : false ≡ true = p in absurd cc)
