-- What an end of a pair takes and hands up through lives, by the steps of its bearer.
use Rattle.std.proofs.Common.{◌≡◌, ℕ, List, [], ◌∷◌, ◌++◌, map, append_assoc, refl, ap, sym, subst, ◌∙◌}
use Rattle.bearer.specs.declared.flow.Flow.{Flow}
use Rattle.bearer.specs.declared.flow.Flow.TheVariants.{Tm, Um, Am}
use Rattle.bearer.specs.Acknowledged.State.{State}
use Rattle.law_bearer.specs.AnyBearer.Calls.{Call, Step as BearerStep, Calls as CallsIt, after}
use Rattle.law_bearer.specs.AnyBearer.Queue.{news, all_news}
use Rattle.eps_sec.specs.declared.Keys.{Keys}
use Rattle.l2_types.specs.declared.side.Side.{Side}
use Rattle.l2_types.specs.declared.side.Side.TheVariants.{Nb, Ue}
use Rattle.law_bearer.specs.AmBearer.Calls.{tells, ups_among}
use Rattle.law_bearer.specs.AmBearer.Lives.{restarts}
use Rattle.law_deliver.specs.AmFlow.Pair.{BearerEnd, Pair, happens}
use Rattle.law_deliver.proofs.AmFlow.Sending.{is_called}
use Rattle.law_deliver.specs.AmDelivery.Lives.{LifeStep, InLife, Restarts, lives_on, lives, near_calls, far_calls}
use Rattle.law_deliver.specs.AmDelivery.Lives.{ups_by, news_by, near_ups_in, far_ups_in, near_news_in, far_news_in}
use Rattle.law_deliver.specs.AmDelivery.Lives.{over}
use Rattle.law_deliver.specs.AmDelivery.Ends.{near_steps_in, far_steps_in}
use Rattle.law_deliver.proofs.AmDelivery.Lasting.{given_in, raised_in, confirmed_in, given_by, raised_by}
use Rattle.law_deliver.proofs.AmDelivery.Lasting.{confirmed_by, near_in, far_in}
use Rattle.law_deliver.proofs.AmDelivery.Reached.{Turns, near_turns, far_turns}
use Rattle.law_deliver.proofs.AmChannel.Bearers.{IsSteady, called_steady, restarts_steady, call_ups, end_ups}
use Rattle.law_deliver.proofs.AmChannel.Ends.{of_steps, ends_up, all_ups}

-- ---- an end of a pair

abbrev pub own : Side → Pair → BearerEnd
own Nb p = p.near
own Ue p = p.far

abbrev pub ups_in_at : Side → Pair → LifeStep → List (List ℕ)
ups_in_at Nb = near_ups_in
ups_in_at Ue = far_ups_in

abbrev pub news_in_at : Side → Pair → LifeStep → List (List ℕ)
news_in_at Nb = near_news_in
news_in_at Ue = far_news_in

-- what its RLC is given, hands up or newly confirms
abbrev pub in_at : {X : Type 0} → Side → (State → List Call → List X) → Pair → LifeStep → List X
in_at Nb = near_in
in_at Ue = far_in

-- and that of a bearer of acknowledged data
abbrev pub acked_on : {X : Type 0} → (State → Call → List X) → Flow → Call → List X
acked_on by (Tm b) c = []
acked_on by (Um b) c = []
acked_on by (Am b) c = by b c

abbrev pub ends_none : {X : Type 0} → ℕ → Flow → List X
ends_none l f = []

abbrev pub all_acked : {X : Type 0} → (State → Call → List X) → ℕ → Flow → List BearerStep → List X
all_acked by = of_steps (λ l. acked_on by) ends_none

-- the steps of its bearer
abbrev pub does_at : Side → Pair → LifeStep → List BearerStep
does_at Nb = near_steps_in
does_at Ue = far_steps_in

abbrev pub all_does : Side → List LifeStep → Pair → List BearerStep
all_does side xs p = over (does_at side) xs p

-- ---- in a step of a life it is called once or not at all

record Few (bits l : ℕ) (cs : List Call) (b d : State) (xs : List BearerStep) : Type 0 where
  steady : IsSteady bits l d
  ups_are : all_ups l (Am b) (map (λ c. CallsIt c) cs ++ xs) ≡ ups_by b cs ++ all_ups l (Am d) xs
  news_are : all_news (Am b) (map (λ c. CallsIt c) cs ++ xs) ≡ news_by b cs ++ all_news (Am d) xs
  given_are : all_acked given_in l (Am b) (map (λ c. CallsIt c) cs ++ xs)
      ≡ given_by b cs ++ all_acked given_in l (Am d) xs
  raised_are : all_acked raised_in l (Am b) (map (λ c. CallsIt c) cs ++ xs)
      ≡ raised_by b cs ++ all_acked raised_in l (Am d) xs
  confirmed_are : all_acked confirmed_in l (Am b) (map (λ c. CallsIt c) cs ++ xs)
      ≡ confirmed_by b cs ++ all_acked confirmed_in l (Am d) xs

few_so : (bits l : ℕ) (cs : List Call) (b d : State) (xs : List BearerStep) → Turns b cs d → IsSteady bits l b
    → Few bits l cs b d xs
few_so bits l [] b d xs t h =
    subst (λ (x : State). Few bits l [] b x xs) (sym t)
    (record {
      steady = h;
      ups_are = refl;
      news_are = refl;
      given_are = refl;
      raised_are = refl;
      confirmed_are = refl;
    })
few_so bits l (c ∷ []) b d xs t h =
    subst (λ (x : State). Few bits l (c ∷ []) b x xs) (sym t)
    (record {
      steady = called_steady bits l b c h;
      ups_are = ap (λ (up : List (List ℕ)). up ++ all_ups l (after (Am b) c) xs) (sym (call_ups l b c h.between))
          ∙ ap (λ (f : Flow). ups_among (tells b c) ++ all_ups l f xs) (is_called b c);
      news_are = ap (λ (f : Flow). news (Am b) c ++ all_news f xs) (is_called b c);
      given_are = ap (λ (f : Flow). given_in b c ++ all_acked given_in l f xs) (is_called b c);
      raised_are = ap (λ (f : Flow). raised_in b c ++ all_acked raised_in l f xs) (is_called b c);
      confirmed_are = ap (λ (f : Flow). confirmed_in b c ++ all_acked confirmed_in l f xs) (is_called b c);
    })
few_so bits l (c ∷ x ∷ cs) b d xs t h = absurd t

-- ---- and through lives

record StepGoes (bits l : ℕ) (side : Side) (p : Pair) (x : LifeStep) (xs : List BearerStep) : Type 0 where
  steady : IsSteady bits l (own side (lives_on p x)).bearer
  ups_are : all_ups l (Am (own side p).bearer) (does_at side p x ++ xs)
      ≡ ups_in_at side p x ++ all_ups l (Am (own side (lives_on p x)).bearer) xs
  news_are : all_news (Am (own side p).bearer) (does_at side p x ++ xs)
      ≡ news_in_at side p x ++ all_news (Am (own side (lives_on p x)).bearer) xs
  given_are : all_acked given_in l (Am (own side p).bearer) (does_at side p x ++ xs)
      ≡ in_at side given_by p x ++ all_acked given_in l (Am (own side (lives_on p x)).bearer) xs
  raised_are : all_acked raised_in l (Am (own side p).bearer) (does_at side p x ++ xs)
      ≡ in_at side raised_by p x ++ all_acked raised_in l (Am (own side (lives_on p x)).bearer) xs
  confirmed_are : all_acked confirmed_in l (Am (own side p).bearer) (does_at side p x ++ xs)
      ≡ in_at side confirmed_by p x ++ all_acked confirmed_in l (Am (own side (lives_on p x)).bearer) xs

restart_goes : (bits l : ℕ) (side : Side) (p : Pair) (keys : Keys) (xs : List BearerStep)
    → IsSteady bits l (own side p).bearer → StepGoes bits l side p (Restarts keys) xs
restart_goes bits l Nb p keys xs h =
    let b = p.near.bearer in
    let r = restarts_steady bits l b keys h in
    record {
      steady = r.steady;
      ups_are = ap (λ (f : Flow). ends_up l (Am b) ++ all_ups l f xs) r.left
          ∙ ap (λ (up : List (List ℕ)). up ++ all_ups l (Am (restarts b keys)) xs) (sym (end_ups l b h.between));
      news_are = ap (λ (f : Flow). all_news f xs) r.left;
      given_are = ap (λ (f : Flow). all_acked given_in l f xs) r.left;
      raised_are = ap (λ (f : Flow). all_acked raised_in l f xs) r.left;
      confirmed_are = ap (λ (f : Flow). all_acked confirmed_in l f xs) r.left;
    }
restart_goes bits l Ue p keys xs h =
    let b = p.far.bearer in
    let r = restarts_steady bits l b keys h in
    record {
      steady = r.steady;
      ups_are = ap (λ (f : Flow). ends_up l (Am b) ++ all_ups l f xs) r.left
          ∙ ap (λ (up : List (List ℕ)). up ++ all_ups l (Am (restarts b keys)) xs) (sym (end_ups l b h.between));
      news_are = ap (λ (f : Flow). all_news f xs) r.left;
      given_are = ap (λ (f : Flow). all_acked given_in l f xs) r.left;
      raised_are = ap (λ (f : Flow). all_acked raised_in l f xs) r.left;
      confirmed_are = ap (λ (f : Flow). all_acked confirmed_in l f xs) r.left;
    }

step_goes : (bits l : ℕ) (side : Side) (p : Pair) (x : LifeStep) (xs : List BearerStep)
    → IsSteady bits l (own side p).bearer → StepGoes bits l side p x xs
step_goes bits l Nb p (InLife s) xs h =
    let few = few_so bits l (near_calls p s) p.near.bearer (happens p s).near.bearer xs (near_turns p s) h in
    record {
      steady = few.steady;
      ups_are = few.ups_are;
      news_are = few.news_are;
      given_are = few.given_are;
      raised_are = few.raised_are;
      confirmed_are = few.confirmed_are;
    }
step_goes bits l Ue p (InLife s) xs h =
    let few = few_so bits l (far_calls p s) p.far.bearer (happens p s).far.bearer xs (far_turns p s) h in
    record {
      steady = few.steady;
      ups_are = few.ups_are;
      news_are = few.news_are;
      given_are = few.given_are;
      raised_are = few.raised_are;
      confirmed_are = few.confirmed_are;
    }
step_goes bits l side p (Restarts keys) xs h = restart_goes bits l side p keys xs h

pub record LivesGo (bits l : ℕ) (side : Side) (p : Pair) (xs : List LifeStep) : Type 0 where
  pub steady : IsSteady bits l (own side (lives xs p)).bearer
  pub ups_are : over (ups_in_at side) xs p ≡ all_ups l (Am (own side p).bearer) (all_does side xs p)
  pub news_are : over (news_in_at side) xs p ≡ all_news (Am (own side p).bearer) (all_does side xs p)
  pub given_are : over (in_at side given_by) xs p
      ≡ all_acked given_in l (Am (own side p).bearer) (all_does side xs p)
  pub raised_are : over (in_at side raised_by) xs p
      ≡ all_acked raised_in l (Am (own side p).bearer) (all_does side xs p)
  pub confirmed_are : over (in_at side confirmed_by) xs p
      ≡ all_acked confirmed_in l (Am (own side p).bearer) (all_does side xs p)

pub lives_go : (bits l : ℕ) (side : Side) (xs : List LifeStep) (p : Pair) → IsSteady bits l (own side p).bearer
    → LivesGo bits l side p xs
lives_go bits l side [] p h =
    record {
      steady = h;
      ups_are = refl;
      news_are = refl;
      given_are = refl;
      raised_are = refl;
      confirmed_are = refl;
    }
lives_go bits l side (x ∷ xs) p h =
    let q : Pair = lives_on p x in
    let one = step_goes bits l side p x (all_does side xs q) h in
    let rest = lives_go bits l side xs q one.steady in
    record {
      steady = rest.steady;
      ups_are = ap (λ (up : List (List ℕ)). ups_in_at side p x ++ up) rest.ups_are ∙ sym one.ups_are;
      news_are = ap (λ (taken : List (List ℕ)). news_in_at side p x ++ taken) rest.news_are ∙ sym one.news_are;
      given_are = ap (λ (given : List (List ℕ)). in_at side given_by p x ++ given) rest.given_are ∙ sym one.given_are;
      raised_are = ap (λ (raised : List (List ℕ)). in_at side raised_by p x ++ raised) rest.raised_are
          ∙ sym one.raised_are;
      confirmed_are = ap (λ (news : List ℕ). in_at side confirmed_by p x ++ news) rest.confirmed_are
          ∙ sym one.confirmed_are;
    }

-- ---- one behind the other

pub lives_more : (xs ys : List LifeStep) (p : Pair) → lives (xs ++ ys) p ≡ lives ys (lives xs p)
lives_more [] ys p = refl
lives_more (x ∷ xs) ys p = lives_more xs ys (lives_on p x)

pub does_more : (side : Side) (xs ys : List LifeStep) (p : Pair)
    → all_does side (xs ++ ys) p ≡ all_does side xs p ++ all_does side ys (lives xs p)
does_more side [] ys p = refl
does_more side (x ∷ xs) ys p =
    ap (λ (ds : List BearerStep). does_at side p x ++ ds) (does_more side xs ys (lives_on p x))
    ∙ sym (append_assoc (does_at side p x) (all_does side xs (lives_on p x))
    (all_does side ys (lives xs (lives_on p x))))
