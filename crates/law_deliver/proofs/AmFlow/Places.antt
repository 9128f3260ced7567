-- The bearer of a channel among those of an end, as it and others are called.
use Rattle.std.proofs.Common.{◌≡◌, ◌≤◌, ◌<◌, ℕ, suc, ◌+◌, ◌==◌, nat_lt, if◌then◌else◌, Bool, true, false, List, [], ◌∷◌}
use Rattle.std.proofs.Common.{◌++◌, length, insert, set, get_or-set_same, get_or-set_other, refl, ap, sym, ◌∙◌, arith}
use Rattle.std.proofs.lemmas.Bool.Decides.{nat_tests}
use Rattle.std.proofs.lemmas.List.{set_past}
use Rattle.bearer.specs.Bearer.{Of, Life}
use Rattle.bearer.specs.declared.flow.Flow.{Flow}
use Rattle.law_bearer.specs.AnyBearer.Calls.{Call as BearerCall, after as called, after_all}
use Rattle.l2_node.specs.Finding.{find, has, place, no_bearer, bearer_at}
use Rattle.law_node.proofs.Holding.{flow_at}
use Rattle.law_node.proofs.Places.{find_set, has_set, found}
use Rattle.law_deliver.specs.AmFlow.Channels.{only}

pub after_more : (f : Flow) (cs ds : List BearerCall) → after_all f (cs ++ ds) ≡ after_all (after_all f cs) ds
after_more f [] ds = refl
after_more f (c ∷ cs) ds = after_more (called f c) cs ds

-- where there is one it goes on by calls
pub record GoesBy (l : ℕ) (bs ds : List (Of Life)) (cs : List BearerCall) : Type 0 where
  pub has_is : has l ds ≡ has l bs
  pub goes : has l bs ≡ true → flow_at l ds ≡ after_all (flow_at l bs) cs

pub rests : (l : ℕ) (bs : List (Of Life)) → GoesBy l bs bs []
rests l bs = record { has_is = refl; goes = λ h. refl }

pub goes_then : (l : ℕ) (bs ds es : List (Of Life)) (cs more : List BearerCall) → GoesBy l bs ds cs
    → GoesBy l ds es more → GoesBy l bs es (cs ++ more)
goes_then l bs ds es cs more a b = record {
  has_is = b.has_is ∙ a.has_is;
  goes = λ h. b.goes (a.has_is ∙ h) ∙ ap (λ (f : Flow). after_all f more) (a.goes h)
      ∙ sym (after_more (flow_at l bs) cs more);
}

-- ---- the bearer at a place is called

pub set_here : (l at : ℕ) (bs : List (Of Life)) (x : Of Life) (c : BearerCall)
    → (bearer_at bs at).channel.lcid ≡ x.channel.lcid
    → x.state.flow ≡ called (bearer_at bs at).state.flow c → at ≡ find l bs
    → GoesBy l bs (set bs at x) (c ∷ [])
set_here l at bs x c same e q = record {
  has_is = has_set l bs at x same;
  goes = λ h.
      let lt : find l bs < length bs = grind (arith, nat_tests) in
      ap (λ (k : ℕ). (bearer_at (set bs at x) k).state.flow) (find_set l bs at x same)
      ∙ ap (λ (k : ℕ). (bearer_at (set bs k x) (find l bs)).state.flow) q
      ∙ ap (λ (b : Of Life). b.state.flow) (get_or-set_same bs (find l bs) x no_bearer lt)
      ∙ e ∙ ap (λ (k : ℕ). called (bearer_at bs k).state.flow c) q;
}

pub set_apart : (l at : ℕ) (bs : List (Of Life)) (x : Of Life) → (bearer_at bs at).channel.lcid ≡ x.channel.lcid
    → (has l bs ≡ true → at ≡ find l bs → ⊥) → GoesBy l bs (set bs at x) []
set_apart l at bs x same apart = record {
  has_is = has_set l bs at x same;
  goes = λ h.
      ap (λ (k : ℕ). (bearer_at (set bs at x) k).state.flow) (find_set l bs at x same)
      ∙ ap (λ (b : Of Life). b.state.flow) (get_or-set_other bs at (find l bs) x no_bearer (λ q. apart h (sym q)));
}

-- ---- the bearer of a channel is called

pub same_lcid : (m l : ℕ) → (m == l) ≡ true → m ≡ l
same_lcid m l e = grind (arith, nat_tests)

pub other_lcid : (m l : ℕ) → (m == l) ≡ false → m ≡ l → ⊥
other_lcid m l e q = grind (arith, nat_tests)

-- where there is none, nothing changes
pub absent_by : (here : Bool) (l m : ℕ) (bs : List (Of Life)) (c : BearerCall) → (m == l) ≡ here → has m bs ≡ false
    → GoesBy l bs bs (only here c)
absent_by true l m bs c e none = record {
  has_is = refl;
  goes = λ h. let no : false ≡ true = sym none ∙ ap (λ (k : ℕ). has k bs) (same_lcid m l e) ∙ h in absurd cc;
}
absent_by false l m bs c e none = rests l bs

pub on_by : (here there : Bool) (l m : ℕ) (bs : List (Of Life)) (x : Of Life) (c : BearerCall) → (m == l) ≡ here
    → has m bs ≡ there
    → (bearer_at bs (find m bs)).channel.lcid ≡ x.channel.lcid → x.state.flow ≡ called (flow_at m bs) c
    → GoesBy l bs (set bs (find m bs) x) (only here c)
on_by true true l m bs x c e h same q =
    set_here l (find m bs) bs x c same q (ap (λ (k : ℕ). find k bs) (same_lcid m l e))
on_by false true l m bs x c e h same q =
    set_apart l (find m bs) bs x same
    (λ there at. other_lcid m l e (sym (found m bs h) ∙ ap (λ (k : ℕ). (bearer_at bs k).channel.lcid) at
    ∙ found l bs there))
on_by here false l m bs x c e h same q =
    let past : length bs ≤ find m bs = grind (arith, nat_tests) in
    rw (set_past bs (find m bs) x past) (absent_by here l m bs c e h)

-- ---- a bearer of another channel is added

lt_more : (n m : ℕ) → nat_lt (n + 1) (suc m) ≡ nat_lt n m
lt_more n m = grind (arith, nat_tests)

has_first : (l : ℕ) (b : Of Life) (bs : List (Of Life)) → (b.channel.lcid == l) ≡ true → has l (b ∷ bs) ≡ true
has_first l b bs e = rw e (grind (arith, nat_tests))

pub has_behind : (l : ℕ) (b : Of Life) (bs : List (Of Life)) → (b.channel.lcid == l) ≡ false → has l (b ∷ bs) ≡ has l bs
has_behind l b bs e = rw e (lt_more (find l bs) (length bs))

pub flow_behind : (l : ℕ) (b : Of Life) (bs : List (Of Life)) → (b.channel.lcid == l) ≡ false
    → flow_at l (b ∷ bs) ≡ flow_at l bs
flow_behind l b bs e =
    let next : find l bs + 1 ≡ suc (find l bs) = omega arith in
    rw (flow_at, e, next) refl

cons_by : (t : Bool) (l : ℕ) (b : Of Life) (bs ds : List (Of Life)) → (b.channel.lcid == l) ≡ t → GoesBy l bs ds []
    → GoesBy l (b ∷ bs) (b ∷ ds) []
cons_by true l b bs ds e g = record {
  has_is = has_first l b ds e ∙ sym (has_first l b bs e);
  goes = λ h. rw (flow_at, e) refl;
}
cons_by false l b bs ds e g = record {
  has_is = has_behind l b ds e ∙ g.has_is ∙ sym (has_behind l b bs e);
  goes = λ h. flow_behind l b ds e ∙ g.goes (sym (has_behind l b bs e) ∙ h) ∙ sym (flow_behind l b bs e);
}

before_by : (l : ℕ) (x : Of Life) (bs : List (Of Life)) → (x.channel.lcid == l) ≡ false → GoesBy l bs (x ∷ bs) []
before_by l x bs e = record { has_is = has_behind l x bs e; goes = λ h. flow_behind l x bs e }

other_by : (t : Bool) (l m : ℕ) (x b : Of Life) (bs : List (Of Life)) → (x.channel.lcid == l) ≡ false
    → GoesBy l bs (insert bs (place m bs) x) []
    → GoesBy l (b ∷ bs) (insert (b ∷ bs) (if t then place m bs + 1 else 0) x) []
other_by true l m x b bs e g =
    let next : place m bs + 1 ≡ suc (place m bs) = omega arith in
    rw next (cons_by (b.channel.lcid == l) l b bs (insert bs (place m bs) x) refl g)
other_by false l m x b bs e g = before_by l x (b ∷ bs) e

pub insert_by : (l m : ℕ) (x : Of Life) (bs : List (Of Life)) → (x.channel.lcid == l) ≡ false
    → GoesBy l bs (insert bs (place m bs) x) []
insert_by l m x [] e = before_by l x [] e
insert_by l m x (b ∷ bs) e = other_by (nat_lt b.channel.lcid m) l m x b bs e (insert_by l m x bs e)
