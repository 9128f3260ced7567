-- Steps of two ends through lives are steps of both ends of an unacknowledged bearer through lives.
use Rattle.std.proofs.Common.{◌≡◌, ℕ, true, List, [], ◌∷◌, ◌++◌, append-nil, append_assoc, refl, ap, sym, subst, ◌∙◌}
use Rattle.std.proofs.lemmas.List.{map-append}
use Rattle.bearer.specs.declared.flow.Flow.{Flow}
use Rattle.bearer.specs.declared.flow.Flow.TheVariants.{Um}
use Rattle.bearer.specs.Unacknowledged.State.{State}
use Rattle.bearer.specs.Unacknowledged.Lives.{stopped, restarted}
use Rattle.law_bearer.specs.AnyBearer.Calls.{Call as BearerCall, Step as BearerStep, Calls as CallsIt, Restart}
use Rattle.law_bearer.specs.AnyBearer.Calls.{goes as bearer_goes}
use Rattle.law_deliver.specs.AmChannel.Delivery.{steps_over}
use Rattle.law_deliver.specs.AmChannel.Lives.{AirStep, InLife, Moves, lives_on, AreLiving as AreLivingAir, end_at}
use Rattle.law_deliver.specs.AmChannel.Lives.{calls_at, all_calls}
use Rattle.law_deliver.proofs.AmChannel.Acting.{as_steps, act_steps}
use Rattle.law_deliver.proofs.AmChannel.Ends.{step_end, steps_more}
use Rattle.eps_sec.specs.declared.Keys.{Keys}
use Rattle.l2_node.specs.End.{End}
use Rattle.l2_node.specs.Finding.{has}
use Rattle.l2_types.specs.declared.side.Side.{Side}
use Rattle.l2_types.specs.declared.side.Side.TheVariants.{Nb, Ue}
use Rattle.law_node.specs.Calls.{Move, after}
use Rattle.law_node.specs.Holding.{flow}
use Rattle.law_node.proofs.Holding.{flow_at}
use Rattle.law_deliver.specs.AmFlow.Air.{Station, Air, Act, Step, AtNb, AtUe, Passes, does, happens, begins, IsDone}
use Rattle.law_deliver.specs.AmFlow.Air.{IsGiven, HasCome}
use Rattle.law_deliver.proofs.AmFlow.Air.{calls_in as act_calls}
use Rattle.law_deliver.proofs.AmFlow.Lives.{moved_flow, moved_bearers, moved_has}
use Rattle.law_deliver.proofs.AmFlow.Stations.{come_more}
use Rattle.law_deliver.specs.UmDelivery.Lives.{Life, IsLiving, AreLiving, AreAccepted, next_near, next_far}
use Rattle.law_deliver.specs.UmFlow.Calls.{near_calls, far_calls}
use Rattle.law_deliver.specs.UmFlow.Pair.{BearerEnd, Pair, Step as PairStep, goes, um_pair_outset}
use Rattle.law_deliver.specs.UmFlow.Pair.{begins as pair_begins}
use Rattle.law_deliver.proofs.UmFlow.Calls.{near_then, far_then}
use Rattle.law_deliver.specs.UmChannel.Pairs.{deeds_in, steps_in, walk}
use Rattle.law_deliver.proofs.UmChannel.Acting.{acts, accepted_then, act_accepted}
use Rattle.law_deliver.proofs.UmChannel.Bearers.{steps_through, near_end, far_end, restarts}
use Rattle.law_deliver.proofs.UmChannel.Deeds.{does_all, near_own, far_own, near_none, far_none, steps_at, goes_at}
use Rattle.law_deliver.proofs.UmChannel.Deeds.{given_at}
use Rattle.law_deliver.specs.UmFlow.Pair.{happens as pair_happens, IsGiven as IsPairGiven}
use Rattle.law_deliver.proofs.Steps.{walked_more, more_given}
use Rattle.law_deliver.proofs.UmChannel.Stations.{Matches, Acts, passes}

-- where a life stands: the bearers as it began, and the steps so far
pub record Stands (l : ℕ) (a : Air) (near far : State) (so_far : List PairStep) : Type 0 where
  pub nb : Matches Nb l a.nb (goes so_far (um_pair_outset near far)).near
  pub ue : Matches Ue l a.ue (goes so_far (um_pair_outset near far)).far
  pub living : IsLiving near far so_far

-- ---- more steps of a life

pub record Grows (l : ℕ) (a : Air) (s : Step) (near far : State) (so_far : List PairStep) : Type 0 where
  pub stands : Stands l (happens a s) near far (so_far ++ steps_in l a s)
  pub nb_calls : as_steps (near_calls (um_pair_outset near far) (so_far ++ steps_in l a s))
      ≡ as_steps (near_calls (um_pair_outset near far) so_far) ++ steps_over l (calls_at Nb a (InLife s)) a.nb.end
  pub ue_calls : as_steps (far_calls (um_pair_outset near far) (so_far ++ steps_in l a s))
      ≡ as_steps (far_calls (um_pair_outset near far) so_far) ++ steps_over l (calls_at Ue a (InLife s)) a.ue.end

both_calls : (xs ys zs : List BearerCall) (more : List BearerStep) → zs ≡ xs ++ ys → as_steps ys ≡ more
    → as_steps zs ≡ as_steps xs ++ more
both_calls xs ys zs more q r = ap as_steps q ∙ map-append (λ (c : BearerCall). CallsIt c) xs ys
    ∙ ap (λ (ds : List BearerStep). as_steps xs ++ ds) r

module _ (l : ℕ) (a : Air) (near far : State) (so_far : List PairStep) (h : Stands l a near far so_far) where
  abbrev now : Pair
  now = goes so_far (um_pair_outset near far)

  grows_nb : (x : Act) → IsDone l a.nb x → Grows l a (AtNb x) near far so_far
  grows_nb x g =
      let ds = deeds_in l Nb a.ue a.nb x in
      let cs = act_calls l a.ue a.nb x in
      let r : Acts Nb l (does a.ue a.nb x) now.far now.near ds cs =
      acts Nb Ue l a.nb a.ue now.near now.far x refl h.nb h.ue g in
      let there : goes (so_far ++ steps_at Nb ds) (um_pair_outset near far)
      ≡ record { near = does_all now.far now.near ds; far = now.far } =
      walked_more pair_happens (um_pair_outset near far) so_far (steps_at Nb ds) ∙ goes_at Nb now ds in
      let own : near_calls (um_pair_outset near far) (so_far ++ steps_at Nb ds)
      ≡ near_calls (um_pair_outset near far) so_far ++ cs =
      near_then so_far (steps_at Nb ds) (um_pair_outset near far)
      ∙ ap (λ (more : List BearerCall). near_calls (um_pair_outset near far) so_far ++ more)
      (near_own now ds ∙ r.calls_are) in
      let other : far_calls (um_pair_outset near far) (so_far ++ steps_at Nb ds)
      ≡ far_calls (um_pair_outset near far) so_far ++ [] =
      far_then so_far (steps_at Nb ds) (um_pair_outset near far)
      ∙ ap (λ (more : List BearerCall). far_calls (um_pair_outset near far) so_far ++ more) (far_none now ds) in
      record {
        stands = record {
          nb = subst (λ (q : Pair). Matches Nb l (does a.ue a.nb x) q.near) (sym there) r.matches;
          ue = subst (λ (q : Pair). Matches Ue l a.ue q.far) (sym there) h.ue;
          living = record {
            given =
                more_given pair_happens IsPairGiven (um_pair_outset near far) so_far (steps_at Nb ds) h.living.given
                (given_at Nb now ds r.done);
            near_accepts = subst (AreAccepted near) (sym own)
                (accepted_then near (near_calls (um_pair_outset near far) so_far) cs h.living.near_accepts
                (subst (λ (b : State). AreAccepted b cs) (sym (near_end near far so_far))
                (act_accepted l a.ue a.nb x now.near.bearer h.nb.bearer_is)));
            far_accepts =
                subst (AreAccepted far) (sym (other ∙ append-nil (far_calls (um_pair_outset near far) so_far)))
                h.living.far_accepts;
          };
        };
        nb_calls =
            both_calls (near_calls (um_pair_outset near far) so_far) cs _ _ own (sym (act_steps l a.ue a.nb x g));
        ue_calls = both_calls (far_calls (um_pair_outset near far) so_far) [] _ _ other refl;
      }

  grows_ue : (x : Act) → IsDone l a.ue x → Grows l a (AtUe x) near far so_far
  grows_ue x g =
      let ds = deeds_in l Ue a.nb a.ue x in
      let cs = act_calls l a.nb a.ue x in
      let r : Acts Ue l (does a.nb a.ue x) now.near now.far ds cs =
      acts Ue Nb l a.ue a.nb now.far now.near x refl h.ue h.nb g in
      let there : goes (so_far ++ steps_at Ue ds) (um_pair_outset near far)
      ≡ record { near = now.near; far = does_all now.near now.far ds } =
      walked_more pair_happens (um_pair_outset near far) so_far (steps_at Ue ds) ∙ goes_at Ue now ds in
      let own : far_calls (um_pair_outset near far) (so_far ++ steps_at Ue ds)
      ≡ far_calls (um_pair_outset near far) so_far ++ cs =
      far_then so_far (steps_at Ue ds) (um_pair_outset near far)
      ∙ ap (λ (more : List BearerCall). far_calls (um_pair_outset near far) so_far ++ more)
      (far_own now ds ∙ r.calls_are) in
      let other : near_calls (um_pair_outset near far) (so_far ++ steps_at Ue ds)
      ≡ near_calls (um_pair_outset near far) so_far ++ [] =
      near_then so_far (steps_at Ue ds) (um_pair_outset near far)
      ∙ ap (λ (more : List BearerCall). near_calls (um_pair_outset near far) so_far ++ more) (near_none now ds) in
      record {
        stands = record {
          nb = subst (λ (q : Pair). Matches Nb l a.nb q.near) (sym there) h.nb;
          ue = subst (λ (q : Pair). Matches Ue l (does a.nb a.ue x) q.far) (sym there) r.matches;
          living = record {
            given = more_given pair_happens IsPairGiven (um_pair_outset near far) so_far (steps_at Ue ds) h.living.given
                (given_at Ue now ds r.done);
            near_accepts =
                subst (AreAccepted near) (sym (other ∙ append-nil (near_calls (um_pair_outset near far) so_far)))
                h.living.near_accepts;
            far_accepts = subst (AreAccepted far) (sym own)
                (accepted_then far (far_calls (um_pair_outset near far) so_far) cs h.living.far_accepts
                (subst (λ (b : State). AreAccepted b cs) (sym (far_end near far so_far))
                (act_accepted l a.nb a.ue x now.far.bearer h.ue.bearer_is)));
          };
        };
        nb_calls = both_calls (near_calls (um_pair_outset near far) so_far) [] _ _ other refl;
        ue_calls = both_calls (far_calls (um_pair_outset near far) so_far) cs _ _ own (sym (act_steps l a.nb a.ue x g));
      }

  grows_passes : Grows l a Passes near far so_far
  grows_passes =
      let same : so_far ++ [] ≡ so_far = append-nil so_far in
      record {
        stands = subst (Stands l (happens a Passes) near far) (sym same)
            (record { nb = passes Nb l a.nb now.near h.nb; ue = passes Ue l a.ue now.far h.ue; living = h.living });
        nb_calls = ap (λ (ss : List PairStep). as_steps (near_calls (um_pair_outset near far) ss)) same
            ∙ sym (append-nil (as_steps (near_calls (um_pair_outset near far) so_far)));
        ue_calls = ap (λ (ss : List PairStep). as_steps (far_calls (um_pair_outset near far) ss)) same
            ∙ sym (append-nil (as_steps (far_calls (um_pair_outset near far) so_far)));
      }

  pub grows : (s : Step) → IsGiven l a s → Grows l a s near far so_far
  grows (AtNb x) g = grows_nb x g
  grows (AtUe x) g = grows_ue x g
  grows Passes g = grows_passes

-- ---- both ends move

pub begins_so : (side : Side) (l : ℕ) (e : End) (b : State) → HasCome side e → has l e.bearers ≡ true
    → flow l e ≡ Um b → Matches side l (begins e) (pair_begins b)
begins_so side l e b come there is =
    record {
      come = come;
      there = there;
      bearer_is = is;
      loads = [];
      bare = tt;
      blocks_are = refl;
      copies_are = refl;
      are = tt;
    }

pub moves_so : (side : Side) (l : ℕ) (s : Station) (n : BearerEnd) (keys : Keys) → Matches side l s n
    → Matches side l (begins (after s.end (Move keys))) (pair_begins (restarted (stopped n.bearer) keys))
moves_so side l s n keys h =
    let e = s.end in
    let bearers = moved_bearers e keys in
    begins_so side l (after e (Move keys)) (restarted (stopped n.bearer) keys) (come_more side e (Move keys) h.come tt)
    (ap (has l) bearers ∙ moved_has l e.bearers keys ∙ h.there)
    (ap (flow_at l) bearers ∙ moved_flow l e.bearers keys h.there
    ∙ ap (λ (f : Flow). bearer_goes f (Restart keys)) h.bearer_is ∙ restarts n.bearer keys)

-- ---- any steps

pub record WalksOn (l : ℕ) (a : Air) (near far : State) (so_far : List PairStep) (xs : List AirStep) : Type 0 where
  pub living : AreLiving near far (walk l so_far xs a).lives (walk l so_far xs a).steps
  pub nb_does : steps_through Nb near far (walk l so_far xs a).lives (walk l so_far xs a).steps
      ≡ as_steps (near_calls (um_pair_outset near far) so_far) ++ steps_over l (all_calls Nb xs a) a.nb.end
  pub ue_does : steps_through Ue near far (walk l so_far xs a).lives (walk l so_far xs a).steps
      ≡ as_steps (far_calls (um_pair_outset near far) so_far) ++ steps_over l (all_calls Ue xs a) a.ue.end

then_does : (side : Side) (l : ℕ) (a : Air) (x : AirStep) (xs : List AirStep) (before between whole : List BearerStep)
    → between ≡ before ++ steps_over l (calls_at side a x) (end_at side a)
    → whole ≡ between ++ steps_over l (all_calls side xs (lives_on a x)) (end_at side (lives_on a x))
    → whole ≡ before ++ steps_over l (all_calls side (x ∷ xs) a) (end_at side a)
then_does side l a x xs before between whole q r =
    let one = steps_over l (calls_at side a x) (end_at side a) in
    let cs = all_calls side xs (lives_on a x) in
    r ∙ ap (λ (ds : List BearerStep). ds ++ steps_over l cs (end_at side (lives_on a x))) q
    ∙ append_assoc before one (steps_over l cs (end_at side (lives_on a x)))
    ∙ ap (λ (e : End). before ++ (one ++ steps_over l cs e)) (step_end side a x)
    ∙ ap (λ (ds : List BearerStep). before ++ ds) (sym (steps_more l (calls_at side a x) cs (end_at side a)))

pub walks_on : (l : ℕ) (xs : List AirStep) (a : Air) (near far : State) (so_far : List PairStep) → AreLivingAir l a xs
    → Stands l a near far so_far → WalksOn l a near far so_far xs
walks_on l [] a near far so_far g h = record {
  living = h.living;
  nb_does = sym (append-nil (as_steps (near_calls (um_pair_outset near far) so_far)));
  ue_does = sym (append-nil (as_steps (far_calls (um_pair_outset near far) so_far)));
}
walks_on l (InLife s ∷ xs) a near far so_far g h =
    let one = grows l a near far so_far h s g.0 in
    let rest = walks_on l xs (happens a s) near far (so_far ++ steps_in l a s) g.1 one.stands in
    record {
      living = rest.living;
      nb_does = then_does Nb l a (InLife s) xs _ _ _ one.nb_calls rest.nb_does;
      ue_does = then_does Ue l a (InLife s) xs _ _ _ one.ue_calls rest.ue_does;
    }
walks_on l (Moves keys ∷ xs) a near far so_far g h =
    let life : Life = record { steps = so_far; keys = keys } in
    let b : Air = lives_on a (Moves keys) in
    let rest = walks_on l xs b (next_near near far life) (next_far near far life) [] g.1
    (record {
      nb = moves_so Nb l a.nb (goes so_far (um_pair_outset near far)).near keys h.nb;
      ue = moves_so Ue l a.ue (goes so_far (um_pair_outset near far)).far keys h.ue;
      living = record { given = tt; near_accepts = tt; far_accepts = tt };
    }) in
    record {
      living = (h.living, rest.living);
      nb_does =
          ap (λ (ds : List BearerStep). as_steps (near_calls (um_pair_outset near far) so_far) ++ Restart keys ∷ ds)
          rest.nb_does;
      ue_does =
          ap (λ (ds : List BearerStep). as_steps (far_calls (um_pair_outset near far) so_far) ++ Restart keys ∷ ds)
          rest.ue_does;
    }
