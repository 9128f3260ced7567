-- One bearer among those of an end, as one of them goes on.
use Rattle.std.proofs.Common.{◌≡◌, ◌<◌, ℕ, zero, suc, ◌+◌, ◌==◌, nat_lt, if◌then◌else◌, Bool, true, false, List, []}
use Rattle.std.proofs.Common.{◌∷◌, ◌++◌, length, insert, set, append-nil, append_assoc, get_or-set_same}
use Rattle.std.proofs.Common.{get_or-set_other, refl, ap, sym, ◌∙◌, subst, arith, inl, inr}
use Rattle.std.proofs.lemmas.Bool.{cases_eq}
use Rattle.std.proofs.lemmas.Bool.Decides.{nat_tests}
use Rattle.bearer.specs.Bearer.{Of, Life}
use Rattle.bearer.specs.declared.flow.Flow.{Flow}
use Rattle.bearer.specs.Lives.{stopped, restarted}
use Rattle.law_bearer.proofs.AnyBearer.Flows.{run_more}
use Rattle.law_bearer.specs.AnyBearer.Calls.{Call as BearerCall, Step, Calls, Restart, after as called, goes}
use Rattle.law_bearer.specs.AnyBearer.Calls.{run_bearer}
use Rattle.law_bearer.specs.AnyBearer.Stream.{takes, takes_in, all_taken, counts}
use Rattle.eps_sec.specs.declared.Keys.{Keys}
use Rattle.l2_node.specs.Finding.{find, has, place, no_bearer, bearer_at}
use Rattle.l2_node.specs.Moving.{all_stopped, all_restarted}
use Rattle.law_bearer.proofs.AnyBearer.Ciphering.{counts_more}
use Rattle.pdcp_tx.specs.State.{Offer}
use Rattle.law_node.specs.Bearers.{restarts}
use Rattle.law_node.proofs.Holding.{flow_at}
use Rattle.law_node.proofs.Places.{find_set, has_set}

-- ---- steps of a bearer, with the keys of the lives that begin and the COUNTs that are taken

pub record Takes (f g : Flow) (lives : List Keys) (taken : List ℕ) : Type 0 where
  pub steps : List Step
  pub flow_is : g ≡ run_bearer steps f
  pub lives_are : restarts steps ≡ lives
  pub counts_are : counts (all_taken f steps) ≡ taken

stays : (f : Flow) → Takes f f [] []
stays f = record { steps = []; flow_is = refl; lives_are = refl; counts_are = refl }

restarts_more : (xs ys : List Step) → restarts (xs ++ ys) ≡ restarts xs ++ restarts ys
restarts_more [] ys = refl
restarts_more (Calls c ∷ xs) ys = restarts_more xs ys
restarts_more (Restart keys ∷ xs) ys = ap (λ (ks : List Keys). keys ∷ ks) (restarts_more xs ys)

taken_more : (f : Flow) (xs ys : List Step) → all_taken f (xs ++ ys) ≡ all_taken f xs ++ all_taken (run_bearer xs f) ys
taken_more f [] ys = refl
taken_more f (x ∷ xs) ys = ap (λ (os : List Offer). takes_in f x ++ os) (taken_more (goes f x) xs ys)
    ∙ sym (append_assoc (takes_in f x) (all_taken (goes f x) xs) (all_taken (run_bearer xs (goes f x)) ys))

pub then_takes : (f g h : Flow) (ks ls : List Keys) (ns ms : List ℕ) → Takes f g ks ns → Takes g h ls ms
    → Takes f h (ks ++ ls) (ns ++ ms)
then_takes f g h ks ls ns ms a b = record {
  steps = a.steps ++ b.steps;
  flow_is = b.flow_is ∙ ap (run_bearer b.steps) a.flow_is ∙ sym (run_more f a.steps b.steps);
  lives_are = restarts_more a.steps b.steps ∙ ap (λ (l : List Keys). l ++ restarts b.steps) a.lives_are
      ∙ ap (λ (l : List Keys). ks ++ l) b.lives_are;
  counts_are =
      ap counts (taken_more f a.steps b.steps)
      ∙ counts_more (all_taken f a.steps) (all_taken (run_bearer a.steps f) b.steps)
      ∙ ap (λ (l : List ℕ). l ++ counts (all_taken (run_bearer a.steps f) b.steps)) a.counts_are
      ∙ ap (λ (l : List ℕ). ns ++ l) (ap (λ (x : Flow). counts (all_taken x b.steps)) (sym a.flow_is) ∙ b.counts_are);
}

one_call : (f g : Flow) (c : BearerCall) (ns : List ℕ) → g ≡ called f c → ns ≡ counts (takes f c) → Takes f g [] ns
one_call f g c ns e q = record {
  steps = Calls c ∷ [];
  flow_is = e;
  lives_are = refl;
  counts_are = ap counts (append-nil (takes f c)) ∙ sym q;
}

-- ---- the bearer of a channel, where there is one

pub record Goes (l : ℕ) (bs ds : List (Of Life)) (lives : List Keys) (taken : List ℕ) : Type 0 where
  pub has_is : has l ds ≡ has l bs
  pub none : has l bs ≡ false → taken ≡ []
  pub goes : has l bs ≡ true → Takes (flow_at l bs) (flow_at l ds) lives taken

pub rests : (l : ℕ) (bs : List (Of Life)) → Goes l bs bs [] []
rests l bs = record { has_is = refl; none = λ h. refl; goes = λ h. stays (flow_at l bs) }

both_none : (xs ys : List ℕ) → xs ≡ [] → ys ≡ [] → xs ++ ys ≡ []
both_none xs ys p q = ap (λ (l : List ℕ). l ++ ys) p ∙ q

pub goes_then : (l : ℕ) (bs cs ds : List (Of Life)) (ks ls : List Keys) (ns ms : List ℕ) → Goes l bs cs ks ns
    → Goes l cs ds ls ms → Goes l bs ds (ks ++ ls) (ns ++ ms)
goes_then l bs cs ds ks ls ns ms a b = record {
  has_is = b.has_is ∙ a.has_is;
  none = λ h. both_none ns ms (a.none h) (b.none (a.has_is ∙ h));
  goes = λ h. then_takes (flow_at l bs) (flow_at l cs) (flow_at l ds) ks ls ns ms (a.goes h) (b.goes (a.has_is ∙ h));
}

-- ---- the bearer at a place goes on

-- what it takes is that of the channel, where it is the channel's
pub record IsTaken (l at : ℕ) (bs : List (Of Life)) (c : BearerCall) (ns : List ℕ) : Type 0 where
  pub here : has l bs ≡ true → at ≡ find l bs → ns ≡ counts (takes (flow_at l bs) c)
  pub apart : (has l bs ≡ true → at ≡ find l bs → ⊥) → ns ≡ []

pub set_goes : (l : ℕ) (bs : List (Of Life)) (at : ℕ) (x : Of Life) (c : BearerCall) (ns : List ℕ)
    → (bearer_at bs at).channel.lcid ≡ x.channel.lcid → x.state.flow ≡ called (bearer_at bs at).state.flow c
    → IsTaken l at bs c ns
    → Goes l bs (set bs at x) [] ns
set_goes l bs at x c ns same e i = record {
  has_is = has_set l bs at x same;
  none = λ h. i.apart (λ there q. let no : false ≡ true = sym h ∙ there in cc);
  goes = λ h. elim (cases_eq at (find l bs)) [
    | inl q ↦
        let lt : find l bs < length bs = grind (arith, nat_tests) in
        let flow_is : flow_at l (set bs at x) ≡ x.state.flow =
        ap (λ (k : ℕ). (bearer_at (set bs at x) k).state.flow) (find_set l bs at x same)
        ∙ ap (λ (k : ℕ). (bearer_at (set bs k x) (find l bs)).state.flow) q
        ∙ ap (λ (b : Of Life). b.state.flow) (get_or-set_same bs (find l bs) x no_bearer lt) in
        one_call (flow_at l bs) (flow_at l (set bs at x)) c ns
        (flow_is ∙ e ∙ ap (λ (k : ℕ). called (bearer_at bs k).state.flow c) q) (i.here h q)
    | inr apart ↦
        let flow_is : flow_at l (set bs at x) ≡ flow_at l bs =
        ap (λ (k : ℕ). (bearer_at (set bs at x) k).state.flow) (find_set l bs at x same)
        ∙ ap (λ (b : Of Life). b.state.flow) (get_or-set_other bs at (find l bs) x no_bearer (λ q. apart (sym q))) in
        let none : ns ≡ [] = i.apart (λ there q. apart q) in
        subst (λ (ms : List ℕ). Takes (flow_at l bs) (flow_at l (set bs at x)) [] ms) (sym none)
        (subst (λ (g : Flow). Takes (flow_at l bs) g [] []) (sym flow_is) (stays (flow_at l bs)))
  ];
}

-- a call in which nothing is taken
pub quiet : (l at : ℕ) (bs : List (Of Life)) (c : BearerCall) → ((f : Flow) → takes f c ≡ []) → IsTaken l at bs c []
quiet l at bs c none = record { here = λ h q. sym (ap counts (none (flow_at l bs))); apart = λ other. refl }

-- ---- all go on into another life

pub restarted_find : (l : ℕ) (bs : List (Of Life)) (keys : Keys)
    → find l (all_restarted (all_stopped bs) keys) ≡ find l bs
restarted_find l [] keys = refl
restarted_find l (b ∷ bs) keys = ap (λ (n : ℕ). if b.channel.lcid == l then 0 else n + 1) (restarted_find l bs keys)

pub restarted_length : (bs : List (Of Life)) (keys : Keys) → length (all_restarted (all_stopped bs) keys) ≡ length bs
restarted_length [] keys = refl
restarted_length (b ∷ bs) keys = ap suc (restarted_length bs keys)

pub restarted_at : (bs : List (Of Life)) (keys : Keys) (at : ℕ) → at < length bs
    → (bearer_at (all_restarted (all_stopped bs) keys) at).state.flow
    ≡ restarted (stopped (bearer_at bs at).state.flow) keys
restarted_at [] keys at lt = absurd (omega arith)
restarted_at (b ∷ bs) keys zero lt = refl
restarted_at (b ∷ bs) keys (suc at) lt = restarted_at bs keys at (omega arith)

pub moved_goes : (l : ℕ) (bs : List (Of Life)) (keys : Keys)
    → Goes l bs (all_restarted (all_stopped bs) keys) (keys ∷ []) []
moved_goes l bs keys =
    let ds = all_restarted (all_stopped bs) keys in
    let same = restarted_find l bs keys in
    record {
      has_is = ap (λ (n : ℕ). nat_lt n (length ds)) same
          ∙ ap (λ (n : ℕ). nat_lt (find l bs) n) (restarted_length bs keys);
      none = λ h. refl;
      goes = λ h.
          let lt : find l bs < length bs = grind (arith, nat_tests) in
          record {
            steps = Restart keys ∷ [];
            flow_is = ap (λ (k : ℕ). (bearer_at ds k).state.flow) same ∙ restarted_at bs keys (find l bs) lt;
            lives_are = refl;
            counts_are = refl;
          };
    }

-- ---- a bearer more, in its place

lt_more : (n m : ℕ) → nat_lt (n + 1) (suc m) ≡ nat_lt n m
lt_more n m = grind (arith, nat_tests)

has_first : (l : ℕ) (b : Of Life) (bs : List (Of Life)) → (b.channel.lcid == l) ≡ true → has l (b ∷ bs) ≡ true
has_first l b bs e = rw e (grind (arith, nat_tests))

has_behind : (l : ℕ) (b : Of Life) (bs : List (Of Life)) → (b.channel.lcid == l) ≡ false → has l (b ∷ bs) ≡ has l bs
has_behind l b bs e = rw e (lt_more (find l bs) (length bs))

flow_behind : (l : ℕ) (b : Of Life) (bs : List (Of Life)) → (b.channel.lcid == l) ≡ false
    → flow_at l (b ∷ bs) ≡ flow_at l bs
flow_behind l b bs e =
    let next : find l bs + 1 ≡ suc (find l bs) = omega arith in
    rw (flow_at, e, next) refl

-- one of another channel
cons_goes : (t : Bool) (l : ℕ) (b : Of Life) (bs ds : List (Of Life)) → (b.channel.lcid == l) ≡ t → Goes l bs ds [] []
    → Goes l (b ∷ bs) (b ∷ ds) [] []
cons_goes true l b bs ds e g =
    record {
      has_is = has_first l b ds e ∙ sym (has_first l b bs e);
      none = λ h. refl;
      goes = λ h. rw (flow_at, e) (stays b.state.flow);
    }
cons_goes false l b bs ds e g = record {
  has_is = has_behind l b ds e ∙ g.has_is ∙ sym (has_behind l b bs e);
  none = λ h. refl;
  goes = λ h. let p = flow_behind l b bs e in let q = flow_behind l b ds e in
      rw (p, q) (g.goes (sym (has_behind l b bs e) ∙ h));
}

before_goes : (l : ℕ) (x : Of Life) (bs : List (Of Life)) → (x.channel.lcid == l) ≡ false → Goes l bs (x ∷ bs) [] []
before_goes l x bs e = record {
  has_is = has_behind l x bs e;
  none = λ h. refl;
  goes = λ h. let p = flow_behind l x bs e in rw p (stays (flow_at l bs));
}

other_by : (t : Bool) (l m : ℕ) (x b : Of Life) (bs : List (Of Life)) → (x.channel.lcid == l) ≡ false
    → Goes l bs (insert bs (place m bs) x) [] []
    → Goes l (b ∷ bs) (insert (b ∷ bs) (if t then place m bs + 1 else 0) x) [] []
other_by true l m x b bs e g =
    let next : place m bs + 1 ≡ suc (place m bs) = omega arith in
    rw next (cons_goes (b.channel.lcid == l) l b bs (insert bs (place m bs) x) refl g)
other_by false l m x b bs e g = before_goes l x (b ∷ bs) e

pub insert_goes : (l m : ℕ) (x : Of Life) (bs : List (Of Life)) → (x.channel.lcid == l) ≡ false
    → Goes l bs (insert bs (place m bs) x) [] []
insert_goes l m x [] e = before_goes l x [] e
insert_goes l m x (b ∷ bs) e = other_by (nat_lt b.channel.lcid m) l m x b bs e (insert_goes l m x bs e)

-- the channel's own stands before what may have had its LCID
pub record Stands (l : ℕ) (bs : List (Of Life)) (f : Flow) : Type 0 where
  pub there : has l bs ≡ true
  pub flow_is : flow_at l bs ≡ f

first_stands : (x : Of Life) (bs : List (Of Life)) → Stands x.channel.lcid (x ∷ bs) x.state.flow
first_stands x bs = let e : (x.channel.lcid == x.channel.lcid) ≡ true = grind (arith, nat_tests) in
    record { there = has_first x.channel.lcid x bs e; flow_is = rw (flow_at, e) refl }

behind_stands : (l : ℕ) (b : Of Life) (bs : List (Of Life)) (f : Flow) → (b.channel.lcid == l) ≡ false → Stands l bs f
    → Stands l (b ∷ bs) f
behind_stands l b bs f e s = record {
  there = has_behind l b bs e ∙ s.there;
  flow_is = flow_behind l b bs e ∙ s.flow_is;
}

own_by : (t : Bool) (x b : Of Life) (bs : List (Of Life)) → nat_lt b.channel.lcid x.channel.lcid ≡ t
    → Stands x.channel.lcid (insert bs (place x.channel.lcid bs) x) x.state.flow
    → Stands x.channel.lcid (insert (b ∷ bs) (if t then place x.channel.lcid bs + 1 else 0) x) x.state.flow
own_by true x b bs e s =
    let next : place x.channel.lcid bs + 1 ≡ suc (place x.channel.lcid bs) = omega arith in
    let apart : (b.channel.lcid == x.channel.lcid) ≡ false = grind (arith, nat_tests) in
    rw next (behind_stands x.channel.lcid b (insert bs (place x.channel.lcid bs) x) x.state.flow apart s)
own_by false x b bs e s = first_stands x (b ∷ bs)

pub insert_stands : (x : Of Life) (bs : List (Of Life))
    → Stands x.channel.lcid (insert bs (place x.channel.lcid bs) x) x.state.flow
insert_stands x [] = first_stands x []
insert_stands x (b ∷ bs) = own_by (nat_lt b.channel.lcid x.channel.lcid) x b bs refl (insert_stands x bs)
