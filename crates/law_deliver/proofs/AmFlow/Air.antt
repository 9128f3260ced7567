-- The bearers of a channel at two ends are a pair.
use Rattle.std.proofs.Common.{◌≡◌, ℕ, List, [], ◌∷◌, ◌++◌, map, slice_get, refl, ap, sym, subst, ◌∙◌}
use Rattle.std.specs.List.{AllByRecursion}
use Rattle.bearer.specs.Acknowledged.State.{State}
use Rattle.law_bearer.specs.AnyBearer.Calls.{Call as BearerCall}
use Rattle.l2_node.specs.End.{End}
use Rattle.bearer_types.specs.Sides.{heard_by, sent_by}
use Rattle.l2_types.specs.declared.side.Side.{Side}
use Rattle.l2_types.specs.declared.side.Side.TheVariants.{Nb, Ue}
use Rattle.law_deliver.specs.AmFlow.Air.{Station, Air, Act, Calls, Comes, Goes, Step, AtNb, AtUe, Passes, does, passed}
use Rattle.law_deliver.specs.AmFlow.Air.{older, happens, goes, begins, outset, IsYoung, IsDone, IsGiven, AreGiven}
use Rattle.law_deliver.specs.AmFlow.Air.{Begins, IsPair}
use Rattle.law_deliver.specs.AmFlow.Carrying.{CarriedPdu, Carried, behind_act, behind_step, carried_behind}
use Rattle.law_deliver.specs.AmFlow.Carrying.{carries_none}
use Rattle.law_deliver.specs.AmFlow.Channels.{calls_of}
use Rattle.law_deliver.specs.AmFlow.Pair.{BearerEnd, Pair, Step as PairStep, Passes as PairPasses, goes as pair_goes}
use Rattle.law_deliver.specs.AmFlow.Pair.{am_pair_outset, begins as pair_begins, passed as pair_passed}
use Rattle.law_deliver.specs.AmFlow.Pair.{older as older_sent, AreGiven as AreGivenPair}
use Rattle.law_rlc.specs.AmPair.Given.{IsYoung as IsYoungReport}
use Rattle.law_deliver.proofs.AmFlow.Acts.{act_by}
use Rattle.law_deliver.proofs.AmFlow.Loads.{all_pdus, aged_load, aged_copies, aged_reports, aged_blocks, aged_pdus}
use Rattle.law_deliver.proofs.AmFlow.Loads.{aged_all}
use Rattle.law_deliver.proofs.AmFlow.Loads.{young_all}
use Rattle.law_deliver.proofs.AmFlow.Runs.{steps_at, goes_at, given_at}
use Rattle.law_deliver.specs.AmFlow.Pair.{happens as pair_happens, IsGiven as IsPairGiven}
use Rattle.law_deliver.proofs.Steps.{walked_more, more_given}
use Rattle.law_deliver.proofs.AmFlow.Stations.{Matches, MatchesWith, Acts, calls_by, hears, lets_go, plain_call}
use Rattle.law_deliver.proofs.AmFlow.Visiting.{visits}

-- ---- an act at an end

abbrev pub calls_in : ℕ → Station → Station → Act → List BearerCall
calls_in l other s (Calls c) = calls_of l s.end c
calls_in l other s (Comes k) = calls_by l s.end (slice_get other.blocks k)
calls_in l other s (Goes k) = []

pub acts : (side oside : Side) (l : ℕ) (s o : Station) (n m : BearerEnd) (x : Act) → heard_by side ≡ sent_by oside
    → (h : Matches side l s n) → Matches oside l o m → IsDone l s x
    → Acts side l (does o s x) m n (calls_in l o s x) (behind_act l s.end x (all_pdus h.loads))
acts side oside l s o n m x dir h k =
    act_by l o s (λ v y. Acts side l v m n (calls_in l o s y) (behind_act l s.end y (all_pdus h.loads)))
    (λ c given life no_turn no_block. plain_call side l s n m c h given life no_turn no_block)
    (λ t given turn. visits side l s n m t h given turn)
    (λ place. hears side oside l place s o n m (slice_get o.blocks place) dir h k refl)
    (λ place. lets_go side l place s n m h (slice_get h.loads place) refl) x

-- ---- a TTI passes

pub passes : (side : Side) (l : ℕ) (s : Station) (n : BearerEnd) → Matches side l s n
    → Matches side l (passed s) (pair_passed n)
passes side l s n h = record {
  come = h.come;
  there = h.there;
  bearer_is = h.bearer_is;
  loads = map aged_load h.loads;
  blocks_are = aged_blocks h.loads ∙ ap (map older) h.blocks_are;
  copies_are = h.copies_are ∙ sym (aged_copies h.loads);
  reports_are = ap (map older_sent) h.reports_are ∙ sym (aged_reports h.loads);
  are = aged_all l (sent_by side) s.end.sender s.end.numbers h.loads h.are;
  busy = λ q. q;
}

passes_with : (side : Side) (l : ℕ) (s : Station) (n : BearerEnd) (pdus : List (List CarriedPdu))
    → MatchesWith side l s n pdus → MatchesWith side l (passed s) (pair_passed n) pdus
unfolding passes
passes_with side l s n pdus h =
    record { matches = passes side l s n h.matches; pdus_are = aged_pdus h.matches.loads ∙ h.pdus_are }

pub young : (side : Side) (l : ℕ) (s : Station) (n : BearerEnd) → Matches side l s n → AllByRecursion IsYoung s.blocks
    → AllByRecursion IsYoungReport n.reports
young side l s n h y =
    subst (λ rs. AllByRecursion IsYoungReport rs) (sym h.reports_are)
    (young_all l (sent_by side) s.end.sender s.end.numbers h.loads
    (subst (λ bs. AllByRecursion IsYoung bs) (sym h.blocks_are) y) h.are)

-- it leaves these PDUs beside the blocks
acts_with : (side oside : Side) (l : ℕ) (s o : Station) (n m : BearerEnd) (pdus : List (List CarriedPdu)) (x : Act)
    → heard_by side ≡ sent_by oside → MatchesWith side l s n pdus → Matches oside l o m → IsDone l s x
    → Acts side l (does o s x) m n (calls_in l o s x) (behind_act l s.end x pdus)
acts_with side oside l s o n m pdus x dir h k g =
    subst (λ (ps : List (List CarriedPdu)). Acts side l (does o s x) m n (calls_in l o s x) (behind_act l s.end x ps))
    h.pdus_are (acts side oside l s o n m x dir h.matches k g)

-- ---- both ends

pub record BothMatch (l : ℕ) (b d : State) (a : Air) (c : Carried) : Type 0 where
  pub steps : List PairStep
  pub given : AreGivenPair (am_pair_outset b d) steps
  pub nb : MatchesWith Nb l a.nb (pair_goes steps (am_pair_outset b d)).near c.nb
  pub ue : MatchesWith Ue l a.ue (pair_goes steps (am_pair_outset b d)).far c.ue

-- steps more of the pair
module _ (l : ℕ) (b d : State) (a : Air) (c : Carried) (h : BothMatch l b d a c) where
  more_match : (z : Air) (k : Carried) (ts : List PairStep)
      → AreGivenPair (pair_goes h.steps (am_pair_outset b d)) ts
      → MatchesWith Nb l z.nb (pair_goes ts (pair_goes h.steps (am_pair_outset b d))).near k.nb
      → MatchesWith Ue l z.ue (pair_goes ts (pair_goes h.steps (am_pair_outset b d))).far k.ue → BothMatch l b d z k
  more_match z k ts g x y =
      let more = sym (walked_more pair_happens (am_pair_outset b d) h.steps ts) in
      record {
        steps = h.steps ++ ts;
        given = more_given pair_happens IsPairGiven (am_pair_outset b d) h.steps ts h.given g;
        nb = subst (λ (p : Pair). MatchesWith Nb l z.nb p.near k.nb) more x;
        ue = subst (λ (p : Pair). MatchesWith Ue l z.ue p.far k.ue) more y;
      }

  happens_on : (s : Step) → IsGiven l a s → BothMatch l b d (happens a s) (behind_step l a s c)
  happens_on (AtNb x) g =
      let p : Pair = pair_goes h.steps (am_pair_outset b d) in
      let r = acts_with Nb Ue l a.nb a.ue p.near p.far c.nb x refl h.nb h.ue.matches g in
      let same = sym (goes_at Nb p r.deeds) in
      more_match (happens a (AtNb x)) (behind_step l a (AtNb x) c) (steps_at Nb r.deeds)
      (given_at Nb p r.deeds r.done)
      (subst (λ (q : Pair). MatchesWith Nb l (does a.ue a.nb x) q.near (behind_act l a.nb.end x c.nb)) same r.now)
      (subst (λ (q : Pair). MatchesWith Ue l a.ue q.far c.ue) same h.ue)
  happens_on (AtUe x) g =
      let p : Pair = pair_goes h.steps (am_pair_outset b d) in
      let r = acts_with Ue Nb l a.ue a.nb p.far p.near c.ue x refl h.ue h.nb.matches g in
      let same = sym (goes_at Ue p r.deeds) in
      more_match (happens a (AtUe x)) (behind_step l a (AtUe x) c) (steps_at Ue r.deeds)
      (given_at Ue p r.deeds r.done)
      (subst (λ (q : Pair). MatchesWith Nb l a.nb q.near c.nb) same h.nb)
      (subst (λ (q : Pair). MatchesWith Ue l (does a.nb a.ue x) q.far (behind_act l a.ue.end x c.ue)) same r.now)
  happens_on Passes g =
      let p : Pair = pair_goes h.steps (am_pair_outset b d) in
      more_match (happens a Passes) c (PairPasses ∷ [])
      ((young Nb l a.nb p.near h.nb.matches g.0, young Ue l a.ue p.far h.ue.matches g.1), tt)
      (passes_with Nb l a.nb p.near c.nb h.nb) (passes_with Ue l a.ue p.far c.ue h.ue)

goes_on : (l : ℕ) (b d : State) (steps : List Step) (a : Air) (c : Carried) → AreGiven l a steps → BothMatch l b d a c
    → BothMatch l b d (goes steps a) (carried_behind l steps a c)
goes_on l b d [] a c g h = h
goes_on l b d (s ∷ ss) a c g h =
    goes_on l b d ss (happens a s) (behind_step l a s c) g.1 (happens_on l b d a c h s g.0)

pub begins_so : (side : Side) (l : ℕ) (e : End) (b : State) → Begins side l e b
    → Matches side l (begins e) (pair_begins b)
begins_so side l e b h = record {
  come = h.come;
  there = h.there;
  bearer_is = h.bearer_is;
  loads = [];
  blocks_are = refl;
  copies_are = refl;
  reports_are = refl;
  are = tt;
  busy = λ q. q;
}

begins_with : (side : Side) (l : ℕ) (e : End) (b : State) → Begins side l e b
    → MatchesWith side l (begins e) (pair_begins b) []
unfolding begins_so
begins_with side l e b h = record { matches = begins_so side l e b h; pdus_are = refl }

pub both_match : (l : ℕ) (nb ue : End) (b d : State) (steps : List Step) → Begins Nb l nb b → Begins Ue l ue d
    → AreGiven l (outset nb ue) steps
    → BothMatch l b d (goes steps (outset nb ue)) (carried_behind l steps (outset nb ue) carries_none)
both_match l nb ue b d steps x y g =
    goes_on l b d steps (outset nb ue) carries_none g (record {
      steps = [];
      given = tt;
      nb = begins_with Nb l nb b x;
      ue = begins_with Ue l ue d y;
    })

pub channels_are_pairs : (l : ℕ) (nb ue : End) (b d : State) (steps : List Step) → Begins Nb l nb b → Begins Ue l ue d
    → AreGiven l (outset nb ue) steps → IsPair l b d (goes steps (outset nb ue))
channels_are_pairs l nb ue b d steps x y g =
    let h = both_match l nb ue b d steps x y g in
    record { steps = h.steps; given = h.given; nb_is = h.nb.matches.bearer_is; ue_is = h.ue.matches.bearer_is }
