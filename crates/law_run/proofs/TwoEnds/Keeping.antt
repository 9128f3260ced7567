-- Both ends keep their acknowledged bearers of a channel, and the life that runs.
use Rattle.std.proofs.Common.{◌≡◌, ℕ, true, Option, Some, None, List, [], ◌∷◌, ◌++◌, refl, ap, sym, subst, ◌∙◌}
use Rattle.std.specs.Prelude.{slice_get}
use Rattle.bearer.specs.declared.flow.Flow.{Flow}
use Rattle.bearer.specs.declared.flow.Flow.TheVariants.{Am}
use Rattle.bearer.specs.Lives.{stopped, restarted}
use Rattle.bearer.specs.Acknowledged.Lives.{stopped as am_stopped, restarted as am_restarted}
use Rattle.bearer.specs.Acknowledged.State.{State}
use Rattle.law_bearer.specs.AnyBearer.Calls.{Call as BearerCall, after_all}
use Rattle.eps_sec.specs.declared.Keys.{Keys}
use Rattle.l2_node.specs.End.{End}
use Rattle.l2_node.specs.Finding.{has}
use Rattle.l2_types.specs.declared.side.Side.{Side}
use Rattle.l2_types.specs.declared.side.Side.TheVariants.{Nb, Ue}
use Rattle.law_node.specs.Calls.{Call as EndCall, Receive, Move, IsGiven as IsGivenTo, after as after_call}
use Rattle.law_node.specs.Holding.{flow}
use Rattle.law_node.proofs.Holding.{flow_at}
use Rattle.law_node.proofs.Living.{go_on}
use Rattle.law_deliver.specs.AmFlow.Air.{Block, Station, Air, Act, Calls, Comes, Goes as LetsGo, Step, AtNb, AtUe}
use Rattle.law_deliver.specs.AmFlow.Air.{Passes, comes, does, happens, goes, outset, HasCome, Begins, IsDone, IsGiven}
use Rattle.law_deliver.specs.AmFlow.Air.{AreGiven}
use Rattle.law_deliver.specs.AmFlow.Channels.{GoesOnInLife, calls_of}
use Rattle.law_deliver.specs.AmFlow.Pair.{called}
use Rattle.law_deliver.proofs.AmFlow.Channels.{calls_reach_bearers}
use Rattle.law_deliver.proofs.AmFlow.Lives.{moves_begin, moved_has, moved_flow, moved_bearers}
use Rattle.law_deliver.proofs.AmFlow.Sending.{is_called}
use Rattle.law_deliver.proofs.AmFlow.Stations.{come_more}
use Rattle.law_deliver.specs.AmChannel.Lives.{AirStep, InLife, Moves, IsLiving, AreLiving, lives_on, lives, end_at}
use Rattle.law_run.specs.TwoEnds.Lived.{HasBearer}
use Rattle.law_deliver.proofs.AmChannel.Ends.{calls_end}

-- ---- an end keeps its bearer

pub record Keeps (l : ℕ) (side : Side) (e : End) : Type 0 where
  pub come : HasCome side e
  pub bearer : HasBearer l e

all_called : (cs : List BearerCall) (b : State) → (d : State) × (after_all (Am b) cs ≡ Am d)
all_called [] b = (b, refl)
all_called (c ∷ cs) b =
    let x = all_called cs (called b c) in
    (x.0, ap (λ (f : Flow). after_all f cs) (is_called b c) ∙ x.1)

call_keeps : (l : ℕ) (side : Side) (e : End) (c : EndCall) → IsGivenTo c → GoesOnInLife l c → Keeps l side e
    → Keeps l side (after_call e c)
call_keeps l side e c g life h =
    let x = h.come in
    let there = subst (λ (y : End). has l y.bearers ≡ true) x.end_is h.bearer.there in
    let on = go_on side x.maximum x.reports x.past (c ∷ []) l x.given (g, tt) there (life.adds_none, tt) in
    let cs = calls_of l e c in
    let d = all_called cs h.bearer.bearer in
    let is : flow l (after_call e c) ≡ after_all (flow l e) cs =
    subst (λ (y : End). flow l (after_call y c) ≡ after_all (flow l y) (calls_of l y c)) (sym x.end_is)
    (calls_reach_bearers side x.maximum x.reports x.past c l x.given g life there) in
    record {
      come = come_more side e c x g;
      bearer = record {
        there = ap (λ (y : End). has l (after_call y c).bearers) x.end_is ∙ on.there;
        bearer = d.0;
        bearer_is = is ∙ ap (λ (f : Flow). after_all f cs) h.bearer.bearer_is ∙ d.1;
      };
    }

come_keeps : (l : ℕ) (side : Side) (s : Station) (o : Option Block) → Keeps l side s.end → Keeps l side (comes s o).end
come_keeps l side s None h = h
come_keeps l side s (Some b) h =
    call_keeps l side s.end (Receive b.octets) tt (record { adds_none = refl; moves_none = refl }) h

act_keeps : (l : ℕ) (side : Side) (o s : Station) (x : Act) → IsDone l s x → Keeps l side s.end
    → Keeps l side (does o s x).end
act_keeps l side o s (Calls c) g h = subst (Keeps l side) (sym (calls_end s c)) (call_keeps l side s.end c g.0 g.1 h)
act_keeps l side o s (Comes k) g h = come_keeps l side s (slice_get o.blocks k) h
act_keeps l side o s (LetsGo k) g h = h

-- ---- as it moves

moved_am : (b : State) (keys : Keys) → restarted (stopped (Am b)) keys ≡ Am (am_restarted (am_stopped b) keys)
unfolding restarted stopped
moved_am b keys = refl

moved_is : (l : ℕ) (e : End) (keys : Keys) (h : HasBearer l e)
    → flow l (after_call e (Move keys)) ≡ Am (am_restarted (am_stopped h.bearer) keys)
moved_is l e keys h = ap (flow_at l) (moved_bearers e keys) ∙ moved_flow l e.bearers keys h.there
    ∙ ap (λ (f : Flow). restarted (stopped f) keys) h.bearer_is ∙ moved_am h.bearer keys

move_keeps : (l : ℕ) (side : Side) (e : End) (keys : Keys) → Keeps l side e → Keeps l side (after_call e (Move keys))
move_keeps l side e keys h = record {
  come = come_more side e (Move keys) h.come tt;
  bearer = record {
    there = ap (has l) (moved_bearers e keys) ∙ moved_has l e.bearers keys ∙ h.bearer.there;
    bearer = am_restarted (am_stopped h.bearer.bearer) keys;
    bearer_is = moved_is l e keys h.bearer;
  };
}

step_keeps : (l : ℕ) (side : Side) (a : Air) (x : AirStep) → IsLiving l a x → Keeps l side (end_at side a)
    → Keeps l side (end_at side (lives_on a x))
step_keeps l Nb a (InLife (AtNb x)) g h = act_keeps l Nb a.ue a.nb x g h
step_keeps l Nb a (InLife (AtUe x)) g h = h
step_keeps l Nb a (InLife Passes) g h = h
step_keeps l Nb a (Moves keys) g h = move_keeps l Nb a.nb.end keys h
step_keeps l Ue a (InLife (AtNb x)) g h = h
step_keeps l Ue a (InLife (AtUe x)) g h = act_keeps l Ue a.nb a.ue x g h
step_keeps l Ue a (InLife Passes) g h = h
step_keeps l Ue a (Moves keys) g h = move_keeps l Ue a.ue.end keys h

pub steps_keep : (l : ℕ) (side : Side) (a : Air) (xs : List AirStep) → AreLiving l a xs → Keeps l side (end_at side a)
    → Keeps l side (end_at side (lives xs a))
steps_keep l side a [] g h = h
steps_keep l side a (x ∷ xs) g h = steps_keep l side (lives_on a x) xs g.1 (step_keeps l side a x g.0 h)

-- ---- the life that runs

pub record Runs (l : ℕ) (a : Air) : Type 0 where
  pub nb : End
  pub nb_bearer : State
  pub nb_begins : Begins Nb l nb nb_bearer
  pub ue : End
  pub ue_bearer : State
  pub ue_begins : Begins Ue l ue ue_bearer
  pub steps : List Step
  pub given : AreGiven l (outset nb ue) steps
  pub air_is : goes steps (outset nb ue) ≡ a

goes_more : (s : Step) (ss : List Step) (a : Air) → goes (ss ++ s ∷ []) a ≡ happens (goes ss a) s
goes_more s [] a = refl
goes_more s (x ∷ ss) a = goes_more s ss (happens a x)

given_more : (l : ℕ) (s : Step) (ss : List Step) (a : Air) → AreGiven l a ss → IsGiven l (goes ss a) s
    → AreGiven l a (ss ++ s ∷ [])
given_more l s [] a g h = (h, tt)
given_more l s (x ∷ ss) a g h = (g.0, given_more l s ss (happens a x) g.1 h)

longer : (l : ℕ) (a : Air) (s : Step) → IsGiven l a s → Runs l a → Runs l (happens a s)
longer l a s g r = record {
  nb = r.nb;
  nb_bearer = r.nb_bearer;
  nb_begins = r.nb_begins;
  ue = r.ue;
  ue_bearer = r.ue_bearer;
  ue_begins = r.ue_begins;
  steps = r.steps ++ s ∷ [];
  given = given_more l s r.steps (outset r.nb r.ue) r.given (subst (λ (b : Air). IsGiven l b s) (sym r.air_is) g);
  air_is = goes_more s r.steps (outset r.nb r.ue) ∙ ap (λ (b : Air). happens b s) r.air_is;
}

move_begins : (l : ℕ) (side : Side) (e : End) (keys : Keys) (h : Keeps l side e)
    → Begins side l (after_call e (Move keys)) (am_restarted (am_stopped h.bearer.bearer) keys)
move_begins l side e keys h =
    let x = h.come in
    let d = am_restarted (am_stopped h.bearer.bearer) keys in
    subst (λ (y : End). Begins side l (after_call y (Move keys)) d) (sym x.end_is)
    (moves_begin side x.maximum x.reports x.past keys l d x.given
    (subst (λ (y : End). has l y.bearers ≡ true) x.end_is h.bearer.there)
    (ap (λ (y : End). flow l (after_call y (Move keys))) (sym x.end_is) ∙ moved_is l e keys h.bearer))

anew : (l : ℕ) (a : Air) (keys : Keys) → Keeps l Nb a.nb.end → Keeps l Ue a.ue.end → Runs l (lives_on a (Moves keys))
anew l a keys nb ue = record {
  nb = after_call a.nb.end (Move keys);
  nb_bearer = am_restarted (am_stopped nb.bearer.bearer) keys;
  nb_begins = move_begins l Nb a.nb.end keys nb;
  ue = after_call a.ue.end (Move keys);
  ue_bearer = am_restarted (am_stopped ue.bearer.bearer) keys;
  ue_begins = move_begins l Ue a.ue.end keys ue;
  steps = [];
  given = tt;
  air_is = refl;
}

pub steps_run : (l : ℕ) (xs : List AirStep) (a : Air) → AreLiving l a xs → Keeps l Nb a.nb.end → Keeps l Ue a.ue.end
    → Runs l a → Runs l (lives xs a)
steps_run l [] a g nb ue r = r
steps_run l (InLife s ∷ xs) a g nb ue r =
    steps_run l xs (happens a s) g.1 (step_keeps l Nb a (InLife s) g.0 nb) (step_keeps l Ue a (InLife s) g.0 ue)
    (longer l a s g.0 r)
steps_run l (Moves keys ∷ xs) a g nb ue r =
    steps_run l xs (lives_on a (Moves keys)) g.1 (move_keeps l Nb a.nb.end keys nb) (move_keeps l Ue a.ue.end keys ue)
    (anew l a keys nb ue)
