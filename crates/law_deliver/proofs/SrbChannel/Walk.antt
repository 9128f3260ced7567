-- Steps of two ends in a life are steps of a pair.
use Rattle.std.proofs.Common.{◌≡◌, ℕ, Option, Some, None, List, [], ◌∷◌, ◌++◌, slice_get, refl, ap, sym, subst}
use Rattle.std.proofs.Common.{append-nil, ◌∙◌}
use Rattle.std.specs.List.{AllByRecursion}
use Rattle.law_rlc.specs.AmPair.Flow.{Copy, Report}
use Rattle.bearer.specs.Acknowledged.State.{State}
use Rattle.law_bearer.specs.AnyBearer.Calls.{Call as BearerCall, Submit, Take, Arrive, Expire, Tick, SetDiscard}
use Rattle.l2_types.specs.declared.side.Side.TheVariants.{Nb, Ue}
use Rattle.law_deliver.specs.AmFlow.Air.{Station, Air, Act, Step as LinkStep, AtNb, AtUe, Passes, does as station_does}
use Rattle.law_deliver.specs.AmFlow.Air.{IsDone, IsGiven}
use Rattle.law_deliver.specs.AmFlow.Pair.{BearerEnd, Pair, Deed, Calls as CallsBearer, DataComes}
use Rattle.law_deliver.specs.AmFlow.Pair.{StatusComes}
use Rattle.law_deliver.specs.AmFlow.Pair.{DataGoes, StatusGoes, Step, Near, Far, Passes as PairPasses, called}
use Rattle.law_deliver.specs.AmFlow.Pair.{data_comes, status_comes, does as deed_does, happens, goes}
use Rattle.law_deliver.proofs.AmFlow.Air.{calls_in as act_calls, acts, passes, young}
use Rattle.law_deliver.proofs.AmFlow.Runs.{does_all, AreDone, data_call, status_call, calls_in as deed_calls}
use Rattle.law_deliver.proofs.AmFlow.Runs.{all_calls_in, steps_at, goes_at}
use Rattle.law_deliver.proofs.AmFlow.Stations.{Matches, Acts}
use Rattle.law_deliver.specs.Accepted.{IsAccepted as IsTaken}
use Rattle.law_deliver.specs.AmChannel.Delivery.{steps_over, SetNone}
use Rattle.law_deliver.specs.AmChannel.Lives.{AirStep, InLife, calls_by, calls_at, lives_on}
use Rattle.law_deliver.proofs.AmChannel.Acting.{AreAccepted, in_life_all, as_steps, near_does, far_does}
use Rattle.law_deliver.proofs.AmChannel.Acting.{near_rests, far_rests}
use Rattle.law_deliver.proofs.AmChannel.Acting.{act_steps, act_accepted}
use Rattle.law_deliver.proofs.AmChannel.Submitted.{steps_unset}
use Rattle.law_deliver.proofs.AmChannel.Unset.{IsUnset, IsUnsetStep}
use Rattle.law_deliver.specs.AmDelivery.Arrival.{down_in, up_in}
use Rattle.law_deliver.specs.AmDelivery.Lives.{LifeStep, InLife as InPairLife, over as lives_over}
use Rattle.law_deliver.specs.AmChannel.Arrival.{said_over, happens_in}
use Rattle.law_deliver.proofs.AmChannel.Saying.{Speaks, says, hears, near_says, far_says, near_hears, far_hears}
use Rattle.law_deliver.proofs.AmChannel.Saying.{act_says, act_hears}
use Rattle.law_deliver.proofs.AmFlow.Ups.{Stands}
use Rattle.law_deliver.proofs.SrbDelivery.Passing.{passes_then}
use Rattle.law_deliver.specs.SrbDelivery.Arrival.{passes_of, there_in, back_in}
use Rattle.law_words.specs.Arrivals.{AccountEntry}
use Rattle.law_words.specs.Passing.{Passing}
use Rattle.pdcp_pdu.specs.Kinds.{bits_of}
use Rattle.pdcp_pdu.specs.declared.PdcpKind.TheVariants.{Srb}
use Rattle.law_deliver.specs.SrbDelivery.Life.{IsAccepted, MayBeDone, AreLived, over}
use Rattle.law_deliver.proofs.SrbChannel.Sums.{does, does_as}

-- ---- calls that PDCP doesn't refuse, and that set no discard timer

abbrev AreAllowed : State → List BearerCall → Type 0
AreAllowed b [] = Unit {0}
AreAllowed b (c ∷ cs) = IsAccepted b c × AreAllowed (called b c) cs

allowed_one : (b : State) (c : BearerCall) → IsTaken b.pdcp.tx c → IsUnset c → IsAccepted b c
allowed_one b (Submit sdu) h u = h
allowed_one b (Take share held) h u = tt
allowed_one b (Arrive pdu) h u = tt
allowed_one b (Expire clock) h u = tt
allowed_one b Tick h u = tt
allowed_one b (SetDiscard ttis) h u = absurd u

allowed : (cs : List BearerCall) (b : State) → AreAccepted b cs → AllByRecursion IsUnset cs → AreAllowed b cs
allowed [] b h u = tt
allowed (c ∷ cs) b h u = (allowed_one b c h.0 u.0, allowed cs (called b c) h.1 u.1)

unset_calls : (cs : List BearerCall) → AllByRecursion IsUnsetStep (as_steps cs) → AllByRecursion IsUnset cs
unset_calls [] u = tt
unset_calls (c ∷ cs) u = (u.0, unset_calls cs u.1)

data_rest : (o : Option Copy) (e : BearerEnd) (cs : List BearerCall) → AreAllowed e.bearer (data_call o ++ cs)
    → AreAllowed (data_comes e o).bearer cs
data_rest None e cs h = h
data_rest (Some c) e cs h = h.1

status_rest : (o : Option Report) (e : BearerEnd) (cs : List BearerCall) → AreAllowed e.bearer (status_call o ++ cs)
    → AreAllowed (status_comes e o).bearer cs
status_rest None e cs h = h
status_rest (Some s) e cs h = h.1

deed_rest : (other e : BearerEnd) (d : Deed) (cs : List BearerCall) → AreAllowed e.bearer (deed_calls other d ++ cs)
    → MayBeDone e.bearer d × AreAllowed (deed_does other e d).bearer cs
deed_rest other e (CallsBearer c) cs h = h
deed_rest other e (DataComes k) cs h = (tt, data_rest (slice_get other.copies k) e cs h)
deed_rest other e (StatusComes k) cs h = (tt, status_rest (slice_get other.reports k) e cs h)
deed_rest other e (DataGoes k) cs h = (tt, h)
deed_rest other e (StatusGoes k) cs h = (tt, h)

near_lived : (p : Pair) (ds : List Deed) → AreDone p.far p.near ds → AreAllowed p.near.bearer (all_calls_in p.far ds)
    → AreLived p (steps_at Nb ds)
near_lived p [] g h = tt
near_lived p (d ∷ ds) g h =
    let one = deed_rest p.far p.near d (all_calls_in p.far ds) h in
    ((g.0, one.0), near_lived (happens p (Near d)) ds g.1 one.1)

far_lived : (p : Pair) (ds : List Deed) → AreDone p.near p.far ds → AreAllowed p.far.bearer (all_calls_in p.near ds)
    → AreLived p (steps_at Ue ds)
far_lived p [] g h = tt
far_lived p (d ∷ ds) g h =
    let one = deed_rest p.near p.far d (all_calls_in p.near ds) h in
    ((g.0, one.0), far_lived (happens p (Far d)) ds g.1 one.1)

act_allowed : (l : ℕ) (other s : Station) (x : Act) (b : State) → IsDone l s x → SetNone l (calls_by other x)
    → AreAccepted b (act_calls l other s x) → AreAllowed b (act_calls l other s x)
act_allowed l other s x b g none h =
    allowed (act_calls l other s x) b h
    (unset_calls (act_calls l other s x)
    (subst (AllByRecursion IsUnsetStep) (act_steps l other s x g) (steps_unset l (calls_by other x) s.end none)))

-- ---- one step

pub record Walks (l : ℕ) (a : Air) (x : LinkStep) (p : Pair) : Type 0 where
  pub steps : List Step
  pub lived : AreLived p steps
  pub nb : Matches Nb l (lives_on a (InLife x)).nb (goes steps p).near
  pub ue : Matches Ue l (lives_on a (InLife x)).ue (goes steps p).far
  pub nb_does : does Nb steps p ≡ steps_over l (calls_at Nb a (InLife x)) a.nb.end
  pub ue_does : does Ue steps p ≡ steps_over l (calls_at Ue a (InLife x)) a.ue.end
  pub down_is : over there_in steps p ≡ passes_of (happens_in (bits_of Srb) l Nb a (InLife x))
  pub up_is : over back_in steps p ≡ passes_of (happens_in (bits_of Srb) l Ue a (InLife x))

-- the bearers of the channel at both ends
pub record Ready (l : ℕ) (a : Air) (p : Pair) : Type 0 where
  pub nb_stands : Stands Nb l a.nb.end
  pub ue_stands : Stands Ue l a.ue.end
  pub nb_speaks : Speaks (bits_of Srb) l p.near.bearer
  pub ue_speaks : Speaks (bits_of Srb) l p.far.bearer

-- the PDUs among what happens
passes_over : (what : Pair → LifeStep → List AccountEntry) (ss : List Step) (p : Pair)
    → over (λ q s. passes_of (what q (InPairLife s))) ss p ≡ passes_of (lives_over what (in_life_all ss) p)
passes_over what [] p = refl
passes_over what (s ∷ ss) p =
    ap (λ (ps : List Passing). passes_of (what p (InPairLife s)) ++ ps) (passes_over what ss (happens p s))
    ∙ sym (passes_then (what p (InPairLife s)) (lives_over what (in_life_all ss) (happens p s)))

-- no discard timer is set in it
pub record SetsNone (l : ℕ) (a : Air) (x : AirStep) : Type 0 where
  pub nb : SetNone l (calls_at Nb a x)
  pub ue : SetNone l (calls_at Ue a x)

walks_nb : (l : ℕ) (a : Air) (x : Act) (p : Pair) → IsDone l a.nb x → SetNone l (calls_by a.ue x)
    → Matches Nb l a.nb p.near → Matches Ue l a.ue p.far → Ready l a p → Walks l a (AtNb x) p
walks_nb l a x p g none h k ready =
    let r : Acts Nb l (station_does a.ue a.nb x) p.far p.near (act_calls l a.ue a.nb x) _ =
    acts Nb Ue l a.nb a.ue p.near p.far x refl h k g in
    let same : goes (steps_at Nb r.deeds) p ≡ record { near = does_all p.far p.near r.deeds; far = p.far } =
    goes_at Nb p r.deeds in
    let may = act_allowed l a.ue a.nb x p.near.bearer g none (act_accepted l a.ue a.nb x p.near.bearer h.bearer_is) in
    record {
      steps = steps_at Nb r.deeds;
      lived = near_lived p r.deeds r.done (subst (AreAllowed p.near.bearer) (sym r.calls_are) may);
      nb = subst (λ (q : Pair). Matches Nb l (station_does a.ue a.nb x) q.near) (sym same) r.now.matches;
      ue = subst (λ (q : Pair). Matches Ue l a.ue q.far) (sym same) k;
      nb_does = does_as Nb (steps_at Nb r.deeds) p ∙ near_does p r.deeds ∙ ap as_steps r.calls_are
          ∙ sym (act_steps l a.ue a.nb x g);
      ue_does = does_as Ue (steps_at Nb r.deeds) p ∙ far_rests p r.deeds;
      down_is =
          passes_over down_in (steps_at Nb r.deeds) p
          ∙ ap passes_of
          (near_says p r.deeds
          ∙ (ap (says p.near.bearer) r.calls_are
          ∙ (act_says (bits_of Srb) l Nb a.ue a.nb p.near.bearer x ready.nb_stands h.bearer_is ready.nb_speaks g
          ∙ sym (append-nil (said_over (bits_of Srb) l (calls_by a.ue x) a.nb.end)))));
      up_is =
          passes_over up_in (steps_at Nb r.deeds) p
          ∙ ap passes_of (near_hears p r.deeds ∙ (ap hears r.calls_are ∙ act_hears l a.ue a.nb x));
    }

walks_ue : (l : ℕ) (a : Air) (x : Act) (p : Pair) → IsDone l a.ue x → SetNone l (calls_by a.nb x)
    → Matches Nb l a.nb p.near → Matches Ue l a.ue p.far → Ready l a p → Walks l a (AtUe x) p
walks_ue l a x p g none h k ready =
    let r : Acts Ue l (station_does a.nb a.ue x) p.near p.far (act_calls l a.nb a.ue x) _ =
    acts Ue Nb l a.ue a.nb p.far p.near x refl k h g in
    let same : goes (steps_at Ue r.deeds) p ≡ record { near = p.near; far = does_all p.near p.far r.deeds } =
    goes_at Ue p r.deeds in
    let may = act_allowed l a.nb a.ue x p.far.bearer g none (act_accepted l a.nb a.ue x p.far.bearer k.bearer_is) in
    record {
      steps = steps_at Ue r.deeds;
      lived = far_lived p r.deeds r.done (subst (AreAllowed p.far.bearer) (sym r.calls_are) may);
      nb = subst (λ (q : Pair). Matches Nb l a.nb q.near) (sym same) h;
      ue = subst (λ (q : Pair). Matches Ue l (station_does a.nb a.ue x) q.far) (sym same) r.now.matches;
      nb_does = does_as Nb (steps_at Ue r.deeds) p ∙ near_rests p r.deeds;
      ue_does = does_as Ue (steps_at Ue r.deeds) p ∙ far_does p r.deeds ∙ ap as_steps r.calls_are
          ∙ sym (act_steps l a.nb a.ue x g);
      down_is =
          passes_over down_in (steps_at Ue r.deeds) p
          ∙ ap passes_of (far_hears p r.deeds ∙ (ap hears r.calls_are ∙ act_hears l a.nb a.ue x));
      up_is =
          passes_over up_in (steps_at Ue r.deeds) p
          ∙ ap passes_of
          (far_says p r.deeds
          ∙ (ap (says p.far.bearer) r.calls_are
          ∙ (act_says (bits_of Srb) l Ue a.nb a.ue p.far.bearer x ready.ue_stands k.bearer_is ready.ue_speaks g
          ∙ sym (append-nil (said_over (bits_of Srb) l (calls_by a.nb x) a.ue.end)))));
    }

pub walks : (l : ℕ) (a : Air) (x : LinkStep) (p : Pair) → IsGiven l a x → SetsNone l a (InLife x)
    → Matches Nb l a.nb p.near → Matches Ue l a.ue p.far → Ready l a p → Walks l a x p
walks l a (AtNb x) p g none h k ready = walks_nb l a x p g none.nb h k ready
walks l a (AtUe x) p g none h k ready = walks_ue l a x p g none.ue h k ready
walks l a Passes p g none h k ready = record {
  steps = PairPasses ∷ [];
  lived = (((young Nb l a.nb p.near h g.0, young Ue l a.ue p.far k g.1), tt), tt);
  nb = passes Nb l a.nb p.near h;
  ue = passes Ue l a.ue p.far k;
  nb_does = refl;
  ue_does = refl;
  down_is = refl;
  up_is = refl;
}
