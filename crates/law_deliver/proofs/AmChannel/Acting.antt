-- What an end does in a step of a life is steps of a pair that may happen.
use Rattle.std.proofs.Common.{◌≡◌, ℕ, Option, Some, None, List, [], ◌∷◌, ◌++◌, map, append-nil}
use Rattle.std.proofs.Common.{slice_get, refl, ap, sym, subst, ◌∙◌, inl, inr}
use Rattle.std.specs.List.{AllByRecursion}
use Rattle.std.proofs.lemmas.List.{map-append}
use Rattle.law_rlc.specs.AmPair.Flow.{Copy, Report}
use Rattle.bearer.specs.declared.flow.Flow.{Flow}
use Rattle.bearer.specs.declared.flow.Flow.TheVariants.{Am}
use Rattle.bearer.specs.Submitting.{refusal as flow_refusal}
use Rattle.bearer.specs.Acknowledged.State.{State}
use Rattle.law_bearer.specs.AnyBearer.Calls.{Call as BearerCall}
use Rattle.law_bearer.specs.AnyBearer.Calls.{Step as BearerStep, Calls as CallsIt}
use Rattle.l2_node.specs.End.{End}
use Rattle.l2_types.specs.declared.side.Side.TheVariants.{Nb, Ue}
use Rattle.law_node.specs.Calls.{Receive}
use Rattle.law_node.specs.Holding.{flow}
use Rattle.law_deliver.specs.AmFlow.Air.{Block, Station, Act, Calls, Comes, Goes, IsDone}
use Rattle.law_deliver.specs.AmFlow.Pair.{BearerEnd, Pair, Deed, Calls as CallsBearer, DataComes}
use Rattle.law_deliver.specs.AmFlow.Pair.{StatusComes}
use Rattle.law_deliver.specs.AmFlow.Pair.{DataGoes, StatusGoes, Step, Near, Far, called, data_comes, status_comes, does}
use Rattle.law_deliver.specs.AmFlow.Pair.{happens, goes}
use Rattle.law_deliver.proofs.AmFlow.Accepting.{IsQuiet, AreAcceptable, act_acceptable, quiet_accepted}
use Rattle.law_deliver.proofs.AmFlow.Air.{calls_in as act_calls}
use Rattle.law_deliver.proofs.AmFlow.Runs.{AreDone, data_call, status_call, calls_in as deed_calls, all_calls_in}
use Rattle.law_deliver.proofs.AmFlow.Runs.{steps_at}
use Rattle.law_deliver.proofs.AmFlow.Stations.{calls_by as block_calls}
use Rattle.law_deliver.specs.Accepted.{IsAccepted}
use Rattle.law_deliver.specs.AmDelivery.Lives.{LifeStep, InLife, lives, call_by, call_of, calls_in}
use Rattle.law_deliver.specs.AmDelivery.Lives.{MayBeDone, AreLiving}
use Rattle.law_deliver.proofs.AmDelivery.Lasting.{IsOfLife}
use Rattle.law_deliver.specs.AmChannel.Lives.{brought, calls_by}
use Rattle.law_deliver.specs.AmChannel.Delivery.{steps_over}
use Rattle.law_deliver.proofs.AmChannel.Ends.{in_life}
use Rattle.law_deliver.proofs.AmChannel.Pairs.{all_does}

-- ---- calls that PDCP doesn't refuse

abbrev pub AreAccepted : State → List BearerCall → Type 0
AreAccepted b [] = Unit {0}
AreAccepted b (c ∷ cs) = IsAccepted b.pdcp.tx c × AreAccepted (called b c) cs

data_rest : (o : Option Copy) (e : BearerEnd) (cs : List BearerCall) → AreAccepted e.bearer (data_call o ++ cs)
    → AreAccepted (data_comes e o).bearer cs
data_rest None e cs h = h
data_rest (Some c) e cs h = h.1

status_rest : (o : Option Report) (e : BearerEnd) (cs : List BearerCall)
    → AreAccepted e.bearer (status_call o ++ cs)
    → AreAccepted (status_comes e o).bearer cs
status_rest None e cs h = h
status_rest (Some s) e cs h = h.1

deed_rest : (other e : BearerEnd) (d : Deed) (cs : List BearerCall) → AreAccepted e.bearer (deed_calls other d ++ cs)
    → MayBeDone e.bearer d × AreAccepted (does other e d).bearer cs
deed_rest other e (CallsBearer c) cs h = h
deed_rest other e (DataComes k) cs h = (tt, data_rest (slice_get other.copies k) e cs h)
deed_rest other e (StatusComes k) cs h = (tt, status_rest (slice_get other.reports k) e cs h)
deed_rest other e (DataGoes k) cs h = (tt, h)
deed_rest other e (StatusGoes k) cs h = (tt, h)

-- ---- deeds as steps

abbrev pub in_life_all : List Step → List LifeStep
in_life_all ss = map (λ s. InLife s) ss

pub lives_in : (ss : List Step) (p : Pair) → lives (in_life_all ss) p ≡ goes ss p
lives_in [] p = refl
lives_in (s ∷ ss) p = lives_in ss (happens p s)

pub all_of_life : (ss : List Step) → AllByRecursion IsOfLife (in_life_all ss)
all_of_life [] = tt
all_of_life (s ∷ ss) = (tt, all_of_life ss)

pub near_living : (p : Pair) (ds : List Deed) → AreDone p.far p.near ds
    → AreAccepted p.near.bearer (all_calls_in p.far ds) → AreLiving p (in_life_all (steps_at Nb ds))
near_living p [] g h = tt
near_living p (d ∷ ds) g h =
    let one = deed_rest p.far p.near d (all_calls_in p.far ds) h in
    ((g.0, one.0), near_living (happens p (Near d)) ds g.1 one.1)

pub far_living : (p : Pair) (ds : List Deed) → AreDone p.near p.far ds
    → AreAccepted p.far.bearer (all_calls_in p.near ds) → AreLiving p (in_life_all (steps_at Ue ds))
far_living p [] g h = tt
far_living p (d ∷ ds) g h =
    let one = deed_rest p.near p.far d (all_calls_in p.near ds) h in
    ((g.0, one.0), far_living (happens p (Far d)) ds g.1 one.1)

data_same : (o : Option Copy) → call_by o ≡ data_call o
data_same None = refl
data_same (Some c) = refl

status_same : (o : Option Report) → call_of o ≡ status_call o
status_same None = refl
status_same (Some s) = refl

pub calls_same : (other : BearerEnd) (d : Deed) → calls_in other d ≡ deed_calls other d
calls_same other (CallsBearer c) = refl
calls_same other (DataComes k) = data_same (slice_get other.copies k)
calls_same other (StatusComes k) = status_same (slice_get other.reports k)
calls_same other (DataGoes k) = refl
calls_same other (StatusGoes k) = refl

abbrev pub as_steps : List BearerCall → List BearerStep
as_steps cs = map (λ c. CallsIt c) cs

more_steps : (other : BearerEnd) (d : Deed) (ds : List Deed)
    → as_steps (calls_in other d) ++ as_steps (all_calls_in other ds) ≡ as_steps (all_calls_in other (d ∷ ds))
more_steps other d ds =
    ap (λ (cs : List BearerCall). as_steps cs ++ as_steps (all_calls_in other ds)) (calls_same other d)
    ∙ sym (map-append (λ (c : BearerCall). CallsIt c) (deed_calls other d) (all_calls_in other ds))

pub near_does : (p : Pair) (ds : List Deed)
    → all_does Nb (in_life_all (steps_at Nb ds)) p ≡ as_steps (all_calls_in p.far ds)
near_does p [] = refl
near_does p (d ∷ ds) =
    ap (λ (xs : List BearerStep). as_steps (calls_in p.far d) ++ xs) (near_does (happens p (Near d)) ds)
    ∙ more_steps p.far d ds

pub far_does : (p : Pair) (ds : List Deed)
    → all_does Ue (in_life_all (steps_at Ue ds)) p ≡ as_steps (all_calls_in p.near ds)
far_does p [] = refl
far_does p (d ∷ ds) =
    ap (λ (xs : List BearerStep). as_steps (calls_in p.near d) ++ xs) (far_does (happens p (Far d)) ds)
    ∙ more_steps p.near d ds

pub far_rests : (p : Pair) (ds : List Deed) → all_does Ue (in_life_all (steps_at Nb ds)) p ≡ []
far_rests p [] = refl
far_rests p (d ∷ ds) = far_rests (happens p (Near d)) ds

pub near_rests : (p : Pair) (ds : List Deed) → all_does Nb (in_life_all (steps_at Ue ds)) p ≡ []
near_rests p [] = refl
near_rests p (d ∷ ds) = near_rests (happens p (Far d)) ds

-- ---- the calls of an act

brought_steps : (l : ℕ) (e : End) (o : Option Block) → steps_over l (brought o) e ≡ as_steps (block_calls l e o)
brought_steps l e None = refl
brought_steps l e (Some b) = append-nil _
    ∙ in_life l e (Receive b.octets) (record { adds_none = refl; moves_none = refl })

pub act_steps : (l : ℕ) (other s : Station) (x : Act) → IsDone l s x
    → steps_over l (calls_by other x) s.end ≡ as_steps (act_calls l other s x)
act_steps l other s (Calls c) g = append-nil _ ∙ in_life l s.end c g.1
act_steps l other s (Comes k) g = brought_steps l s.end (slice_get other.blocks k)
act_steps l other s (Goes k) g = refl

-- ---- are accepted

quiet_all : (cs : List BearerCall) (b : State) → AllByRecursion IsQuiet cs → AreAccepted b cs
quiet_all [] b q = tt
quiet_all (c ∷ cs) b q = (quiet_accepted b.pdcp.tx c q.0, quiet_all cs (called b c) q.1)

accepts : (b : State) (cs : List BearerCall) → AreAcceptable (Am b) cs → AreAccepted b cs
unfolding flow_refusal
accepts b cs (inl quiet) = quiet_all cs b quiet
accepts b cs (inr one) = subst (AreAccepted b) (sym one.calls_are) (one.accepts, tt)

pub act_accepted : (l : ℕ) (other s : Station) (x : Act) (b : State) → flow l s.end ≡ Am b
    → AreAccepted b (act_calls l other s x)
act_accepted l other s x b is =
    accepts b (act_calls l other s x)
    (subst (λ (f : Flow). AreAcceptable f (act_calls l other s x)) is (act_acceptable l other s x))
