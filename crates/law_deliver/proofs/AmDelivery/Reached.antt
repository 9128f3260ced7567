-- Each end is what its bearer comes to by its own calls and lives.
use Rattle.std.proofs.Common.{◌≡◌, ℕ, List, [], ◌∷◌, ◌++◌, map, Option, Some, None, slice_get, subst, refl, ap, sym}
use Rattle.std.proofs.Common.{◌∙◌}
use Rattle.bearer.specs.declared.flow.Flow.{Flow}
use Rattle.bearer.specs.declared.flow.Flow.TheVariants.{Am}
use Rattle.bearer.specs.Acknowledged.State.{State}
use Rattle.law_bearer.specs.AnyBearer.Calls.{Call, Step as BearerStep, Calls, Restart, goes, run_bearer}
use Rattle.bearer_types.specs.declared.BearerConfig.{BearerConfig}
use Rattle.eps_sec.specs.declared.Keys.{Keys}
use Rattle.l2_types.specs.declared.Kind.TheVariants as kinds
use Rattle.l2_types.specs.declared.Side.{Side}
use Rattle.l2_types.specs.declared.Side.TheVariants.{Nb, Ue}
use Rattle.bearer.specs.Bearer.{flow_of}
use Rattle.law_bearer.specs.AmBearer.Calls.{IsOfData, IsIdle, deeds_of}
use Rattle.law_bearer.specs.AmBearer.Deeds.{does_all}
use Rattle.law_bearer.specs.AmBearer.Lives.{restarts}
use Rattle.law_bearer.proofs.AmBearer.Calls.{calls_are_deeds}
use Rattle.law_bearer.proofs.AmBearer.Lives.{restarts_are_deeds, first_life_begins}
use Rattle.law_rlc.specs.AmPair.Flow.{Copy, Report}
use Rattle.law_deliver.proofs.AmFlow.Sending.{is_called}
use Rattle.law_deliver.specs.AmFlow.Pair.{BearerEnd, Pair, Deed, Calls as Asks, DataComes, StatusComes}
use Rattle.law_deliver.specs.AmFlow.Pair.{DataGoes}
use Rattle.law_deliver.specs.AmFlow.Pair.{StatusGoes, Step, Near, Far, Passes, called, data_comes, status_comes, does}
use Rattle.law_deliver.specs.AmFlow.Pair.{happens, am_pair_outset}
use Rattle.law_deliver.specs.AmDelivery.Ends.{near_steps_in, far_steps_in, EndsAreReached}
use Rattle.law_deliver.specs.AmDelivery.Lives.{LifeStep, InLife, Restarts, lives_on, lives, call_by, call_of, calls_in}
use Rattle.law_deliver.specs.AmDelivery.Lives.{near_calls, far_calls, over}

-- ---- a step is at most a call of an end's bearer

abbrev pub Turns : State → List Call → State → Type 0
Turns b [] d = d ≡ b
Turns b (c ∷ []) d = d ≡ called b c
Turns b (c ∷ x ∷ cs) d = ⊥

data_turns : (e : BearerEnd) (x : Option Copy) → Turns e.bearer (call_by x) (data_comes e x).bearer
data_turns e None = refl
data_turns e (Some c) = refl

status_turns : (e : BearerEnd) (x : Option Report) → Turns e.bearer (call_of x) (status_comes e x).bearer
status_turns e None = refl
status_turns e (Some s) = refl

deed_turns : (other e : BearerEnd) (d : Deed) → Turns e.bearer (calls_in other d) (does other e d).bearer
deed_turns other e (Asks c) = refl
deed_turns other e (DataComes k) = data_turns e (slice_get other.copies k)
deed_turns other e (StatusComes k) = status_turns e (slice_get other.reports k)
deed_turns other e (DataGoes k) = refl
deed_turns other e (StatusGoes k) = refl

pub near_turns : (p : Pair) (s : Step) → Turns p.near.bearer (near_calls p s) (happens p s).near.bearer
near_turns p (Near d) = deed_turns p.far p.near d
near_turns p (Far d) = refl
near_turns p Passes = refl

pub far_turns : (p : Pair) (s : Step) → Turns p.far.bearer (far_calls p s) (happens p s).far.bearer
far_turns p (Near d) = refl
far_turns p (Far d) = deed_turns p.near p.far d
far_turns p Passes = refl

-- ---- what it leaves

abbrev pub as_calls : List Call → List BearerStep
as_calls cs = map (λ c. Calls c) cs

turn_runs : (b d : State) (cs : List Call) → Turns b cs d → run_bearer (as_calls cs) (Am b) ≡ Am d
turn_runs b d [] t = ap (λ (x : State). Am x) (sym t)
turn_runs b d (c ∷ []) t = is_called b c ∙ ap (λ (x : State). Am x) (sym t)
turn_runs b d (c ∷ x ∷ cs) t = absurd t

-- a bearer of data at which nothing is left over
pub record Stands (bits : ℕ) (b : State) : Type 0 where
  pub of_data : IsOfData bits b
  pub idle : IsIdle b

turn_stands : (bits : ℕ) (b d : State) (cs : List Call) → Turns b cs d → Stands bits b → Stands bits d
turn_stands bits b d [] t h = subst (Stands bits) (sym t) h
turn_stands bits b d (c ∷ []) t h =
    let a = calls_are_deeds bits b c h.of_data h.idle in
    let same : Am (called b c) ≡ Am (does_all (deeds_of b c) b) = sym (is_called b c) ∙ a.left in
    let is : does_all (deeds_of b c) b ≡ called b c = cc in
    subst (Stands bits) (is ∙ sym t) (record { of_data = a.stays; idle = a.idle })
turn_stands bits b d (c ∷ x ∷ cs) t h = absurd t

-- ---- an end of a pair: its bearer, the calls of it, and what happens to it as to a bearer of its own

pub record End : Type 0 where
  pub at : Pair → State
  pub calls : Pair → Step → List Call
  pub steps : Pair → LifeStep → List BearerStep
  pub turns : (p : Pair) (s : Step) → Turns (at p) (calls p s) (at (happens p s))
  pub renewed : (p : Pair) (keys : Keys) → at (lives_on p (Restarts keys)) ≡ restarts (at p) keys
  pub in_life : (p : Pair) (s : Step) → steps p (InLife s) ≡ as_calls (calls p s)
  pub between : (p : Pair) (keys : Keys) → steps p (Restarts keys) ≡ Restart keys ∷ []

abbrev pub near_end : End
near_end = record {
  at = λ (p : Pair). p.near.bearer;
  calls = near_calls;
  steps = near_steps_in;
  turns = near_turns;
  renewed = λ p keys. refl;
  in_life = λ p s. refl;
  between = λ p keys. refl;
}

abbrev pub far_end : End
far_end = record {
  at = λ (p : Pair). p.far.bearer;
  calls = far_calls;
  steps = far_steps_in;
  turns = far_turns;
  renewed = λ p keys. refl;
  in_life = λ p s. refl;
  between = λ p keys. refl;
}

-- what a step makes of its bearer
pub record Runs (bits : ℕ) (e : End) (p : Pair) (x : LifeStep) : Type 0 where
  pub runs : run_bearer (e.steps p x) (Am (e.at p)) ≡ Am (e.at (lives_on p x))
  pub stands : Stands bits (e.at (lives_on p x))

pub runs_on : (bits : ℕ) (e : End) (p : Pair) (x : LifeStep) → Stands bits (e.at p) → Runs bits e p x
runs_on bits e p (InLife s) h = record {
  runs = ap (λ (l : List BearerStep). run_bearer l (Am (e.at p))) (e.in_life p s)
      ∙ turn_runs (e.at p) (e.at (happens p s)) (e.calls p s) (e.turns p s);
  stands = turn_stands bits (e.at p) (e.at (happens p s)) (e.calls p s) (e.turns p s) h;
}
runs_on bits e p (Restarts keys) h =
    let a = restarts_are_deeds bits (e.at p) keys h.of_data h.idle in
    record {
      runs = ap (λ (l : List BearerStep). run_bearer l (Am (e.at p))) (e.between p keys) ∙ a.left
          ∙ ap (λ (b : State). Am b) (sym (e.renewed p keys));
      stands = subst (Stands bits) (sym (e.renewed p keys)) (record { of_data = a.stays; idle = a.idle });
    }

-- ---- through lives

run_then : (f : Flow) (xs ys : List BearerStep) → run_bearer (xs ++ ys) f ≡ run_bearer ys (run_bearer xs f)
run_then f [] ys = refl
run_then f (x ∷ xs) ys = run_then (goes f x) xs ys

lives_run : (bits : ℕ) (e : End) (xs : List LifeStep) (p : Pair) → Stands bits (e.at p)
    → run_bearer (over e.steps xs p) (Am (e.at p)) ≡ Am (e.at (lives xs p))
lives_run bits e [] p h = refl
lives_run bits e (x ∷ xs) p h =
    let r = runs_on bits e p x h in
    let q = lives_on p x in
    run_then (Am (e.at p)) (e.steps p x) (over e.steps xs q) ∙ ap (run_bearer (over e.steps xs q)) r.runs
    ∙ lives_run bits e xs q r.stands

pub begins_so : (c : BearerConfig) (keys : Keys) (side : Side) (b : State) → c.kind ≡ kinds.Am
    → flow_of c.kind c keys side ≡ Am b → Stands c.pdcp_bits b
begins_so c keys side b kind is = let first = first_life_begins c keys side b kind is in
    record { of_data = first.stays; idle = first.idle }

pub ends_are_reached : EndsAreReached
ends_are_reached c keys nb ue steps h =
    let p = am_pair_outset nb ue in
    record {
      nb_is = ap (run_bearer (over near_steps_in steps p)) h.nb_is
          ∙ lives_run c.pdcp_bits near_end steps p (begins_so c keys Nb nb h.kind h.nb_is);
      ue_is = ap (run_bearer (over far_steps_in steps p)) h.ue_is
          ∙ lives_run c.pdcp_bits far_end steps p (begins_so c keys Ue ue h.kind h.ue_is);
    }
