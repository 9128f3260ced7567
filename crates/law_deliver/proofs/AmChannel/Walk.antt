-- Steps of two ends through lives are steps of a pair through lives.
use Rattle.std.specs.List.{AllByRecursion}
use Rattle.std.proofs.Common.{◌≡◌, inl, inr, ℕ, true, false, List, [], ◌∷◌, ◌++◌, append-nil, append_assoc, refl, ap}
use Rattle.std.proofs.Common.{sym, subst, ◌∙◌}
use Rattle.bearer.specs.declared.flow.Flow.{Flow}
use Rattle.bearer.specs.declared.flow.Flow.TheVariants.{Am}
use Rattle.bearer.specs.Acknowledged.State.{State}
use Rattle.law_bearer.specs.AnyBearer.Calls.{Step as BearerStep, Restart, goes as bearer_goes}
use Rattle.eps_sec.specs.declared.Keys.{Keys}
use Rattle.l2_node.specs.End.{End}
use Rattle.l2_node.specs.Finding.{has}
use Rattle.l2_types.specs.declared.side.Side.{Side}
use Rattle.l2_types.specs.declared.side.Side.TheVariants.{Nb, Ue}
use Rattle.law_node.specs.Calls.{Call, Move, after, run_end}
use Rattle.law_words.specs.Arrivals.{AccountEntry}
use Rattle.law_deliver.specs.AmDelivery.Arrival.{down_in, up_in}
use Rattle.law_deliver.proofs.AmFlow.Ups.{Stands, stands_more}
use Rattle.law_node.specs.Holding.{flow}
use Rattle.law_node.proofs.Holding.{flow_at}
use Rattle.law_bearer.specs.AmBearer.Lives.{restarts}
use Rattle.law_deliver.specs.AmFlow.Air.{Station, Air, Act, AtNb, AtUe, Passes, does, begins, IsDone, HasCome, Begins}
use Rattle.law_deliver.specs.AmFlow.Pair.{BearerEnd, Pair, Passes as PairPasses, begins as pair_begins}
use Rattle.law_deliver.proofs.AmFlow.Air.{calls_in as act_calls, acts, passes, young, begins_so}
use Rattle.law_deliver.proofs.AmFlow.Lives.{moved_flow, moved_bearers, moves_begin}
use Rattle.law_deliver.proofs.AmFlow.Runs.{does_all, steps_at, goes_at}
use Rattle.law_deliver.proofs.AmFlow.Stations.{Matches, Acts}
use Rattle.law_deliver.specs.AmDelivery.Lives.{LifeStep, InLife as InPairLife, Restarts, lives as pair_lives}
use Rattle.law_deliver.specs.AmDelivery.Lives.{lives_on as pair_lives_on, AreLiving as AreLivingPair, over}
use Rattle.law_deliver.specs.AmChannel.Lives.{AirStep, InLife, Moves, lives_on, IsLiving, AreLiving, end_at, calls_by}
use Rattle.law_deliver.specs.AmChannel.Lives.{calls_at, all_calls}
use Rattle.law_deliver.specs.AmChannel.Delivery.{steps_over}
use Rattle.law_deliver.proofs.AmDelivery.Lasting.{IsOfLife}
use Rattle.law_deliver.proofs.AmChannel.Acting.{AreAccepted, in_life_all, all_of_life, lives_in, near_living}
use Rattle.law_deliver.proofs.AmChannel.Acting.{far_living, as_steps}
use Rattle.law_deliver.proofs.AmChannel.Acting.{near_does, far_does, near_rests, far_rests, act_steps, act_accepted}
use Rattle.law_deliver.proofs.AmChannel.Bearers.{IsSteady, restarts_steady}
use Rattle.law_deliver.proofs.AmChannel.Ends.{step_end, steps_more, IsCall, step_so}
use Rattle.law_deliver.specs.AmChannel.Arrival.{said_over, happens_in, happened}
use Rattle.law_deliver.proofs.AmChannel.Saying.{says, hears, near_says, far_says, near_hears, far_hears, act_says}
use Rattle.law_deliver.proofs.AmChannel.Saying.{act_hears, speaks}
use Rattle.law_deliver.proofs.AmChannel.Pairs.{all_does, lives_go, does_more}

pub record BothMatch (bits l : ℕ) (a : Air) (p : Pair) : Type 0 where
  pub nb : Matches Nb l a.nb p.near
  pub ue : Matches Ue l a.ue p.far
  pub nb_steady : IsSteady bits l p.near.bearer
  pub ue_steady : IsSteady bits l p.far.bearer
  pub nb_stands : Stands Nb l a.nb.end
  pub ue_stands : Stands Ue l a.ue.end

-- ---- one step

abbrev pub IsInLife : AirStep → Type 0
IsInLife (InLife s) = Unit {0}
IsInLife (Moves keys) = ⊥

pub record Walks (bits l : ℕ) (a : Air) (x : AirStep) (p : Pair) : Type 0 where
  pub steps : List LifeStep
  pub living : AreLivingPair p steps
  pub of_life : IsInLife x → AllByRecursion IsOfLife steps
  pub nb : Matches Nb l (lives_on a x).nb (pair_lives steps p).near
  pub ue : Matches Ue l (lives_on a x).ue (pair_lives steps p).far
  pub nb_does : all_does Nb steps p ≡ steps_over l (calls_at Nb a x) a.nb.end
  pub ue_does : all_does Ue steps p ≡ steps_over l (calls_at Ue a x) a.ue.end
  pub down_is : over down_in steps p ≡ happens_in bits l Nb a x
  pub up_is : over up_in steps p ≡ happens_in bits l Ue a x

walks_nb : (bits l : ℕ) (a : Air) (x : Act) (p : Pair) → IsDone l a.nb x → Matches Nb l a.nb p.near
    → Matches Ue l a.ue p.far → Stands Nb l a.nb.end
    → IsSteady bits l p.near.bearer
    → Walks bits l a (InLife (AtNb x)) p
walks_nb bits l a x p g h k stands steady =
    let r : Acts Nb l (does a.ue a.nb x) p.far p.near (act_calls l a.ue a.nb x) _ =
    acts Nb Ue l a.nb a.ue p.near p.far x refl h k g in
    let same : pair_lives (in_life_all (steps_at Nb r.deeds)) p
    ≡ record { near = does_all p.far p.near r.deeds; far = p.far } =
    lives_in (steps_at Nb r.deeds) p ∙ goes_at Nb p r.deeds in
    record {
      steps = in_life_all (steps_at Nb r.deeds);
      living =
          near_living p r.deeds r.done
          (subst (AreAccepted p.near.bearer) (sym r.calls_are)
          (act_accepted l a.ue a.nb x p.near.bearer h.bearer_is));
      of_life = λ in'. all_of_life (steps_at Nb r.deeds);
      nb = subst (λ (q : Pair). Matches Nb l (does a.ue a.nb x) q.near) (sym same) r.now.matches;
      ue = subst (λ (q : Pair). Matches Ue l a.ue q.far) (sym same) k;
      nb_does = near_does p r.deeds ∙ ap as_steps r.calls_are ∙ sym (act_steps l a.ue a.nb x g);
      ue_does = far_rests p r.deeds;
      down_is = near_says p r.deeds
          ∙ (ap (says p.near.bearer) r.calls_are
          ∙ (act_says bits l Nb a.ue a.nb p.near.bearer x stands h.bearer_is
          (speaks bits l p.near.bearer steady) g
          ∙ sym (append-nil (said_over bits l (calls_by a.ue x) a.nb.end))));
      up_is = near_hears p r.deeds ∙ (ap hears r.calls_are ∙ act_hears l a.ue a.nb x);
    }

walks_ue : (bits l : ℕ) (a : Air) (x : Act) (p : Pair) → IsDone l a.ue x → Matches Nb l a.nb p.near
    → Matches Ue l a.ue p.far → Stands Ue l a.ue.end
    → IsSteady bits l p.far.bearer
    → Walks bits l a (InLife (AtUe x)) p
walks_ue bits l a x p g h k stands steady =
    let r : Acts Ue l (does a.nb a.ue x) p.near p.far (act_calls l a.nb a.ue x) _ =
    acts Ue Nb l a.ue a.nb p.far p.near x refl k h g in
    let same : pair_lives (in_life_all (steps_at Ue r.deeds)) p
    ≡ record { near = p.near; far = does_all p.near p.far r.deeds } =
    lives_in (steps_at Ue r.deeds) p ∙ goes_at Ue p r.deeds in
    record {
      steps = in_life_all (steps_at Ue r.deeds);
      living =
          far_living p r.deeds r.done
          (subst (AreAccepted p.far.bearer) (sym r.calls_are) (act_accepted l a.nb a.ue x p.far.bearer k.bearer_is));
      of_life = λ in'. all_of_life (steps_at Ue r.deeds);
      nb = subst (λ (q : Pair). Matches Nb l a.nb q.near) (sym same) h;
      ue = subst (λ (q : Pair). Matches Ue l (does a.nb a.ue x) q.far) (sym same) r.now.matches;
      nb_does = near_rests p r.deeds;
      ue_does = far_does p r.deeds ∙ ap as_steps r.calls_are ∙ sym (act_steps l a.nb a.ue x g);
      down_is = far_hears p r.deeds ∙ (ap hears r.calls_are ∙ act_hears l a.nb a.ue x);
      up_is = far_says p r.deeds
          ∙ (ap (says p.far.bearer) r.calls_are
          ∙ (act_says bits l Ue a.nb a.ue p.far.bearer x stands k.bearer_is
          (speaks bits l p.far.bearer steady) g
          ∙ sym (append-nil (said_over bits l (calls_by a.nb x) a.ue.end))));
    }

-- ---- both ends move

begins_again : (side : Side) (l : ℕ) (e : End) (keys : Keys) (b : State) → HasCome side e → has l e.bearers ≡ true
    → flow l (after e (Move keys)) ≡ Am b → Begins side l (after e (Move keys)) b
begins_again side l e keys b h there q =
    let s = sym h.end_is in
    subst (λ (x : End). has l x.bearers ≡ true → flow l (after x (Move keys)) ≡ Am b
    → Begins side l (after x (Move keys)) b) s
    (λ t i. moves_begin side h.maximum h.reports h.past keys l b h.given t i) there q

moves_match : (bits : ℕ) (side : Side) (l : ℕ) (s : Station) (n : BearerEnd) (keys : Keys) → Matches side l s n
    → IsSteady bits l n.bearer
    → Matches side l (begins (after s.end (Move keys))) (pair_begins (restarts n.bearer keys))
moves_match bits side l s n keys h steady =
    let e = s.end in
    let b = restarts n.bearer keys in
    let is : flow l (after e (Move keys)) ≡ Am b =
    ap (flow_at l) (moved_bearers e keys) ∙ moved_flow l e.bearers keys h.there
    ∙ ap (λ (f : Flow). bearer_goes f (Restart keys)) h.bearer_is
    ∙ (restarts_steady bits l n.bearer keys steady).left in
    begins_so side l (after e (Move keys)) b (begins_again side l e keys b h.come h.there is)

-- ---- any step

pub step_walks : (bits l : ℕ) (a : Air) (x : AirStep) (p : Pair) → IsLiving l a x → BothMatch bits l a p
    → Walks bits l a x p
step_walks bits l a (InLife (AtNb x)) p g h = walks_nb bits l a x p g h.nb h.ue h.nb_stands h.nb_steady
step_walks bits l a (InLife (AtUe x)) p g h = walks_ue bits l a x p g h.nb h.ue h.ue_stands h.ue_steady
step_walks bits l a (InLife Passes) p g h = record {
  steps = InPairLife PairPasses ∷ [];
  living = (((young Nb l a.nb p.near h.nb g.0, young Ue l a.ue p.far h.ue g.1), tt), tt);
  of_life = λ in'. (tt, tt);
  nb = passes Nb l a.nb p.near h.nb;
  ue = passes Ue l a.ue p.far h.ue;
  nb_does = refl;
  ue_does = refl;
  down_is = refl;
  up_is = refl;
}
step_walks bits l a (Moves keys) p g h = record {
  steps = Restarts keys ∷ [];
  living = (tt, tt);
  of_life = λ in'. absurd in';
  nb = moves_match bits Nb l a.nb p.near keys h.nb h.nb_steady;
  ue = moves_match bits Ue l a.ue p.far keys h.ue h.ue_steady;
  nb_does = refl;
  ue_does = refl;
  down_is = refl;
  up_is = refl;
}

-- ---- any steps

pub record WalksOn (bits l : ℕ) (a : Air) (xs : List AirStep) (p : Pair) : Type 0 where
  pub steps : List LifeStep
  pub living : AreLivingPair p steps
  pub nb_does : all_does Nb steps p ≡ steps_over l (all_calls Nb xs a) a.nb.end
  pub ue_does : all_does Ue steps p ≡ steps_over l (all_calls Ue xs a) a.ue.end
  pub down_is : over down_in steps p ≡ happened bits l Nb xs a
  pub up_is : over up_in steps p ≡ happened bits l Ue xs a

living_more : (xs ys : List LifeStep) (p : Pair) → AreLivingPair p xs → AreLivingPair (pair_lives xs p) ys
    → AreLivingPair p (xs ++ ys)
living_more [] ys p g h = h
living_more (x ∷ xs) ys p g h = (g.0, living_more xs ys (pair_lives_on p x) g.1 h)

does_then : (side : Side) (l : ℕ) (a : Air) (x : AirStep) (xs : List AirStep) (p : Pair) (one more : List LifeStep)
    → all_does side one p ≡ steps_over l (calls_at side a x) (end_at side a)
    → all_does side more (pair_lives one p)
    ≡ steps_over l (all_calls side xs (lives_on a x)) (end_at side (lives_on a x))
    → all_does side (one ++ more) p ≡ steps_over l (all_calls side (x ∷ xs) a) (end_at side a)
does_then side l a x xs p one more q r =
    let cs = all_calls side xs (lives_on a x) in
    does_more side one more p
    ∙ ap (λ (ds : List BearerStep). ds ++ all_does side more (pair_lives one p)) q
    ∙ ap (λ (ds : List BearerStep). steps_over l (calls_at side a x) (end_at side a) ++ ds)
    (r ∙ ap (steps_over l cs) (step_end side a x))
    ∙ sym (steps_more l (calls_at side a x) cs (end_at side a))

over_more : (what : Pair → LifeStep → List AccountEntry) (xs ys : List LifeStep) (p : Pair)
    → over what (xs ++ ys) p ≡ over what xs p ++ over what ys (pair_lives xs p)
over_more what [] ys p = refl
over_more what (x ∷ xs) ys p =
    ap (λ (hs : List AccountEntry). what p x ++ hs) (over_more what xs ys (pair_lives_on p x))
    ∙ sym (append_assoc (what p x) (over what xs (pair_lives_on p x))
    (over what ys (pair_lives xs (pair_lives_on p x))))

-- an end still stands behind calls of a life, and where one ends
call_stands : (side : Side) (l : ℕ) (e : End) (c : Call) → IsCall l c → Stands side l e → Stands side l (after e c)
call_stands side l e c (inl g) s =
    stands_more side l e c s g.0 (λ q. let no : true ≡ false = sym q ∙ g.1.adds_none in absurd cc)
call_stands side l e c (inr (keys, q)) s =
    subst (λ (d : Call). Stands side l (after e d)) (sym q)
    (stands_more side l e (Move keys) s tt (λ p. let no : false ≡ true = p in absurd cc))

calls_stand : (side : Side) (l : ℕ) (cs : List Call) (e : End) → AllByRecursion (IsCall l) cs → Stands side l e
    → Stands side l (run_end cs e)
calls_stand side l [] e g s = s
calls_stand side l (c ∷ cs) e g s = calls_stand side l cs (after e c) g.1 (call_stands side l e c g.0 s)

stands_on : (side : Side) (l : ℕ) (a : Air) (x : AirStep) → IsLiving l a x → Stands side l (end_at side a)
    → Stands side l (end_at side (lives_on a x))
stands_on side l a x g s =
    subst (Stands side l) (sym (step_end side a x))
    (calls_stand side l (calls_at side a x) (end_at side a) (step_so l side a x g) s)

-- they match behind the step
pub matches_on : (bits l : ℕ) (a : Air) (x : AirStep) (p : Pair) → IsLiving l a x → BothMatch bits l a p
    → (w : Walks bits l a x p) → BothMatch bits l (lives_on a x) (pair_lives w.steps p)
matches_on bits l a x p g h w = record {
  nb = w.nb;
  ue = w.ue;
  nb_steady = (lives_go bits l Nb w.steps p h.nb_steady).steady;
  ue_steady = (lives_go bits l Ue w.steps p h.ue_steady).steady;
  nb_stands = stands_on Nb l a x g h.nb_stands;
  ue_stands = stands_on Ue l a x g h.ue_stands;
}

pub walks_on : (bits l : ℕ) (xs : List AirStep) (a : Air) (p : Pair) → AreLiving l a xs → BothMatch bits l a p
    → WalksOn bits l a xs p
walks_on bits l [] a p g h = record {
  steps = [];
  living = tt;
  nb_does = refl;
  ue_does = refl;
  down_is = refl;
  up_is = refl;
}
walks_on bits l (x ∷ xs) a p g h =
    let one = step_walks bits l a x p g.0 h in
    let q : Pair = pair_lives one.steps p in
    let rest = walks_on bits l xs (lives_on a x) q g.1 (matches_on bits l a x p g.0 h one) in
    record {
      steps = one.steps ++ rest.steps;
      living = living_more one.steps rest.steps p one.living rest.living;
      nb_does = does_then Nb l a x xs p one.steps rest.steps one.nb_does rest.nb_does;
      ue_does = does_then Ue l a x xs p one.steps rest.steps one.ue_does rest.ue_does;
      down_is = over_more down_in one.steps rest.steps p
          ∙ (ap (λ (hs : List AccountEntry). hs ++ over down_in rest.steps q) one.down_is
          ∙ ap (λ (hs : List AccountEntry). happens_in bits l Nb a x ++ hs) rest.down_is);
      up_is = over_more up_in one.steps rest.steps p
          ∙ (ap (λ (hs : List AccountEntry). hs ++ over up_in rest.steps q) one.up_is
          ∙ ap (λ (hs : List AccountEntry). happens_in bits l Ue a x ++ hs) rest.up_is);
    }
