-- What RLC was given at each place, as the account goes on.
use Rattle.std.proofs.Common.{◌≡◌, ◌<◌, ◌≤◌, ℕ, zero, suc, ◌+◌, ◌-◌, Bool, true, false, not, if◌then◌else◌}
use Rattle.std.proofs.Common.{List, [], ◌∷◌, ◌++◌, length, map, Option, Some, None, slice_get, slice_set, refl, ap, sym}
use Rattle.std.proofs.Common.{◌∙◌, arith, subst, append_assoc, inl, inr}
use Rattle.std.proofs.lemmas.Bool.{cases_lt, lt-ltb, le-ltb}
use Rattle.pdcp_tx_store.specs.declared.given.Entry.{Entry}
use Rattle.pdcp_tx_store.specs.declared.given.Entry.TheVariants.{Data, Own, Gone}
use Rattle.pdcp_tx_store.specs.Given.{Given, is_open, trimmed, closed, settled, with_entry, acked, acked_at, entry_at}
use Rattle.pdcp_tx_store.specs.Given.{tells, heard}
use Rattle.journal_takes.specs.FlowTakes.{FlowTakes}
use Rattle.law_takes.specs.Accounted.{is_confirmed}
use Rattle.law_takes.specs.Histories.{IsGone, IsGiven, AllGone, AllGiven, AreGiven}

-- what is confirmed stays so
pub record Grows (t t' : FlowTakes) : Type 0 where
  pub next : t.next ≤ t'.next
  pub confirmed : (k : ℕ) → is_confirmed t k ≡ true → is_confirmed t' k ≡ true
  pub reporting : t.reporting ≡ false → t'.reporting ≡ false

pub gone-on : (t t' : FlowTakes) (c : Option ℕ) → Grows t t' → IsGone t c → IsGone t' c
gone-on t t' None g h = g.reporting h
gone-on t t' (Some count) g h = (omega (arith, h.0, g.next), g.confirmed count h.1)

pub given-on : (t t' : FlowTakes) (e : Entry) (c : Option ℕ) → Grows t t' → IsGiven t e c → IsGiven t' e c
given-on t t' (Data x) None g h = absurd h
given-on t t' (Data x) (Some count) g h = record {
  same = h.same;
  taken = omega (arith, h.taken, g.next);
  acked = λ e. g.confirmed count (h.acked e);
}
given-on t t' Own None g h = tt
given-on t t' Own (Some count) g h = absurd h
given-on t t' Gone c g h = gone-on t t' c g h

all-gone-on : (t t' : FlowTakes) (cs : List (Option ℕ)) → Grows t t' → AllGone t cs → AllGone t' cs
all-gone-on t t' [] g h = tt
all-gone-on t t' (c ∷ cs) g h = (gone-on t t' c g h.0, all-gone-on t t' cs g h.1)

all-given-on : (t t' : FlowTakes) (es : List Entry) (cs : List (Option ℕ)) → Grows t t' → AllGiven t es cs
    → AllGiven t' es cs
all-given-on t t' [] [] g h = tt
all-given-on t t' [] (c ∷ cs) g h = absurd h
all-given-on t t' (e ∷ es) [] g h = absurd h
all-given-on t t' (e ∷ es) (c ∷ cs) g h = (given-on t t' e c g h.0, all-given-on t t' es cs g h.1)

pub are-given-on : (t t' : FlowTakes) (g : Given) (given : List (Option ℕ)) → Grows t t' → AreGiven t g given
    → AreGiven t' g given
are-given-on t t' g given w h = record {
  past = h.past;
  now = h.now;
  all = h.all;
  gone = h.gone;
  past_gone = all-gone-on t t' h.past w h.past_gone;
  entries = all-given-on t t' g.entries h.now w h.entries;
}

-- ---- one more

all-given-behind : (t : FlowTakes) (es : List Entry) (cs : List (Option ℕ)) (e : Entry) (c : Option ℕ)
    → AllGiven t es cs → IsGiven t e c → AllGiven t (es ++ e ∷ []) (cs ++ c ∷ [])
all-given-behind t [] [] e c h i = (i, tt)
all-given-behind t [] (d ∷ ds) e c h i = absurd h
all-given-behind t (x ∷ es) [] e c h i = absurd h
all-given-behind t (x ∷ es) (d ∷ ds) e c h i = (h.0, all-given-behind t es ds e c h.1 i)

pub one-given : (t : FlowTakes) (g : Given) (given : List (Option ℕ)) (e : Entry) (c : Option ℕ) → AreGiven t g given
    → IsGiven t e c → AreGiven t (with_entry g e) (given ++ c ∷ [])
one-given t g given e c h i = record {
  past = h.past;
  now = h.now ++ c ∷ [];
  all = ap (λ (l : List (Option ℕ)). l ++ c ∷ []) h.all ∙ append_assoc h.past h.now (c ∷ []);
  gone = h.gone;
  past_gone = h.past_gone;
  entries = all-given-behind t g.entries h.now e c h.entries i;
}

-- ---- those at the front are forgotten

record Split (t : FlowTakes) (es : List Entry) (now : List (Option ℕ)) : Type 0 where
  front : List (Option ℕ)
  rest : List (Option ℕ)
  all : now ≡ front ++ rest
  many : length front ≡ closed es
  front_gone : AllGone t front
  entries : AllGiven t (trimmed es) rest

closed-gone : (t : FlowTakes) (e : Entry) (c : Option ℕ) → is_open e ≡ false → IsGiven t e c → IsGone t c
closed-gone t (Data x) None s h = absurd h
closed-gone t (Data x) (Some count) s h = (h.taken, h.acked (by x.acked s))
  where
    by : (b : Bool) → not b ≡ false → b ≡ true
    by true e = refl
    by false e = absurd cc
closed-gone t Own c s h = absurd cc
closed-gone t Gone c s h = h

split : (t : FlowTakes) (es : List Entry) (now : List (Option ℕ)) → AllGiven t es now → Split t es now
split t [] [] h = record { front = []; rest = []; all = refl; many = refl; front_gone = tt; entries = tt }
split t [] (c ∷ cs) h = absurd h
split t (e ∷ es) [] h = absurd h
split t (e ∷ es) (c ∷ cs) h = by (is_open e) refl (split t es cs h.1)
  where
    by : (b : Bool) → is_open e ≡ b → Split t es cs → Split t (e ∷ es) (c ∷ cs)
    by true is s = record {
      front = [];
      rest = c ∷ cs;
      all = refl;
      many = sym (ap (λ (b : Bool). if b then 0 else 1 + closed es) is);
      front_gone = tt;
      entries = subst (λ (l : List Entry). AllGiven t l (c ∷ cs))
          (sym (ap (λ (b : Bool). if b then e ∷ es else trimmed es) is)) h;
    }
    by false is s = record {
      front = c ∷ s.front;
      rest = s.rest;
      all = ap (λ (l : List (Option ℕ)). c ∷ l) s.all;
      many = let more : suc (length s.front) ≡ 1 + closed es = omega (arith, s.many) in
          more ∙ sym (ap (λ (b : Bool). if b then 0 else 1 + closed es) is);
      front_gone = (closed-gone t e c is h.0, s.front_gone);
      entries = subst (λ (l : List Entry). AllGiven t l s.rest)
          (sym (ap (λ (b : Bool). if b then e ∷ es else trimmed es) is)) s.entries;
    }

all-gone-more : (t : FlowTakes) (cs ds : List (Option ℕ)) → AllGone t cs → AllGone t ds → AllGone t (cs ++ ds)
all-gone-more t [] ds h i = i
all-gone-more t (c ∷ cs) ds h i = (h.0, all-gone-more t cs ds h.1 i)

both-lengths : (cs ds : List (Option ℕ)) → length (cs ++ ds) ≡ length cs + length ds
both-lengths [] ds = omega arith
both-lengths (c ∷ cs) ds = omega (arith, both-lengths cs ds)

pub settled-given : (t : FlowTakes) (g : Given) (given : List (Option ℕ)) → AreGiven t g given
    → AreGiven t (settled g) given
settled-given t g given h =
    let s = split t g.entries h.now h.entries in
    record {
      past = h.past ++ s.front;
      now = s.rest;
      all = h.all ∙ ap (λ (l : List (Option ℕ)). h.past ++ l) s.all ∙ sym (append_assoc h.past s.front s.rest);
      gone = both-lengths h.past s.front ∙ omega (arith, h.gone, s.many);
      past_gone = all-gone-more t h.past s.front h.past_gone s.front_gone;
      entries = s.entries;
    }

-- ---- one is confirmed

set-given : (t t' : FlowTakes) (es : List Entry) (cs : List (Option ℕ)) (k : ℕ) (e : Entry) → Grows t t'
    → ((c : Option ℕ) → IsGiven t e c → IsGiven t' (acked e) c) → slice_get es k ≡ Some e → AllGiven t es cs
    → AllGiven t' (slice_set es k (acked e)) cs
set-given t t' [] cs k e g f q h = let none : None ≡ Some e = q in absurd cc
set-given t t' (x ∷ es) [] k e g f q h = absurd h
set-given t t' (x ∷ es) (c ∷ cs) zero e g f q h =
    let some : Some x ≡ Some e = q in
    let same : x ≡ e = cc in
    (f c (subst (λ (y : Entry). IsGiven t y c) same h.0), all-given-on t t' es cs g h.1)
set-given t t' (x ∷ es) (c ∷ cs) (suc k) e g f q h =
    (given-on t t' x c g h.0, set-given t t' es cs k e g f q h.1)

pub acked-given : (t t' : FlowTakes) (g : Given) (given : List (Option ℕ)) (k : ℕ) (e : Entry) → Grows t t'
    → ((c : Option ℕ) → IsGiven t e c → IsGiven t' (acked e) c) → slice_get g.entries k ≡ Some e
    → AreGiven t g given
    → AreGiven t' (record { gone = g.gone; entries = acked_at (Some e) g.entries k }) given
acked-given t t' g given k e w f q h = record {
  past = h.past;
  now = h.now;
  all = h.all;
  gone = h.gone;
  past_gone = all-gone-on t t' h.past w h.past_gone;
  entries = set-given t t' g.entries h.now k e w f q h.entries;
}

-- ---- a report has come

heard-one : (t t' : FlowTakes) (from : ℕ) (bitmap : List ℕ) (e : Entry) (c : Option ℕ) → Grows t t'
    → ((k : ℕ) → k < t.next → tells from bitmap k ≡ true → is_confirmed t' k ≡ true) → IsGiven t e c
    → IsGiven t' (heard from bitmap e) c
heard-one t t' from bitmap (Data x) None g f h = absurd h
heard-one t t' from bitmap (Data x) (Some count) g f h = by (tells from bitmap x.count) refl
  where
    by : (b : Bool) → tells from bitmap x.count ≡ b → IsGiven t' (if b then Gone else Data x) (Some count)
    by true e = (omega (arith, h.taken, g.next), f count h.taken (sym (ap (tells from bitmap) h.same) ∙ e))
    by false e = given-on t t' (Data x) (Some count) g h
heard-one t t' from bitmap Own c g f h = given-on t t' Own c g h
heard-one t t' from bitmap Gone c g f h = gone-on t t' c g h

heard-all : (t t' : FlowTakes) (from : ℕ) (bitmap : List ℕ) (es : List Entry) (cs : List (Option ℕ)) → Grows t t'
    → ((k : ℕ) → k < t.next → tells from bitmap k ≡ true → is_confirmed t' k ≡ true) → AllGiven t es cs
    → AllGiven t' (map (heard from bitmap) es) cs
heard-all t t' from bitmap [] [] g f h = tt
heard-all t t' from bitmap [] (c ∷ cs) g f h = absurd h
heard-all t t' from bitmap (e ∷ es) [] g f h = absurd h
heard-all t t' from bitmap (e ∷ es) (c ∷ cs) g f h =
    (heard-one t t' from bitmap e c g f h.0, heard-all t t' from bitmap es cs g f h.1)

pub heard-given : (t t' : FlowTakes) (from : ℕ) (bitmap : List ℕ) (g : Given) (given : List (Option ℕ)) → Grows t t'
    → ((k : ℕ) → k < t.next → tells from bitmap k ≡ true → is_confirmed t' k ≡ true) → AreGiven t g given
    → AreGiven t' (record { gone = g.gone; entries = map (heard from bitmap) g.entries }) given
heard-given t t' from bitmap g given w f h = record {
  past = h.past;
  now = h.now;
  all = h.all;
  gone = h.gone;
  past_gone = all-gone-on t t' h.past w h.past_gone;
  entries = heard-all t t' from bitmap g.entries h.now w f h.entries;
}

-- ---- what stands at a place

abbrev pub IsAt : FlowTakes → Option Entry → Option (Option ℕ) → Type 0
IsAt t None None = Unit {0}
IsAt t None (Some c) = IsGone t c
IsAt t (Some e) None = ⊥
IsAt t (Some e) (Some c) = IsGiven t e c

at-entry : (t : FlowTakes) (es : List Entry) (cs : List (Option ℕ)) (k : ℕ) → AllGiven t es cs
    → IsAt t (slice_get es k) (slice_get cs k)
at-entry t [] [] k h = tt
at-entry t [] (c ∷ cs) k h = absurd h
at-entry t (e ∷ es) [] k h = absurd h
at-entry t (e ∷ es) (c ∷ cs) zero h = h.0
at-entry t (e ∷ es) (c ∷ cs) (suc k) h = at-entry t es cs k h.1

at-past : (t : FlowTakes) (cs ds : List (Option ℕ)) (k : ℕ) → k < length cs → AllGone t cs
    → IsAt t None (slice_get (cs ++ ds) k)
at-past t [] ds k lt h = absurd (omega (arith, lt))
at-past t (c ∷ cs) ds zero lt h = h.0
at-past t (c ∷ cs) ds (suc k) lt h = at-past t cs ds k (omega (arith, lt)) h.1

get-past : (cs ds : List (Option ℕ)) (k : ℕ) → length cs ≤ k → slice_get (cs ++ ds) k ≡ slice_get ds (k - length cs)
get-past [] ds k le = let same : k ≡ k - 0 = omega arith in ap (slice_get ds) same
get-past (c ∷ cs) ds zero le = absurd (omega (arith, le))
get-past (c ∷ cs) ds (suc k) le =
    let same : k - length cs ≡ suc k - suc (length cs) = omega arith in
    get-past cs ds k (omega (arith, le)) ∙ ap (slice_get ds) same

pub at-place : (t : FlowTakes) (g : Given) (given : List (Option ℕ)) (place : ℕ) → AreGiven t g given
    → IsAt t (entry_at g place) (slice_get given place)
at-place t g given place h =
    subst (λ (l : List (Option ℕ)). IsAt t (entry_at g place) (slice_get l place)) (sym h.all)
    (elim (cases_lt place g.gone) [
      | inl lt ↦
          subst (λ (b : Bool). IsAt t (if b then None else slice_get g.entries (place - g.gone))
          (slice_get (h.past ++ h.now) place)) (sym (lt-ltb place g.gone lt))
          (at-past t h.past h.now place (omega (arith, lt, h.gone)) h.past_gone)
      | inr ge ↦
          let same : place - length h.past ≡ place - g.gone = omega (arith, h.gone) in
          subst (λ (b : Bool). IsAt t (if b then None else slice_get g.entries (place - g.gone))
          (slice_get (h.past ++ h.now) place)) (sym (le-ltb place g.gone ge))
          (subst (λ (o : Option (Option ℕ)). IsAt t (slice_get g.entries (place - g.gone)) o)
          (sym (get-past h.past h.now place (omega (arith, ge, h.gone)) ∙ ap (slice_get h.now) same))
          (at-entry t g.entries h.now (place - g.gone) h.entries))
    ])
