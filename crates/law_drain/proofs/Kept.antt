-- What PDCP's sender keeps of what it gave, by places, and what RLC's has told it of.
use Rattle.std.proofs.Common.{◌≡◌, ◌<◌, ◌≤◌, inl, inr, ◌⊎◌, ℕ, zero, suc, ◌+◌, ◌-◌, ◌==◌, Bool, true, false, not}
use Rattle.std.proofs.Common.{if◌then◌else◌, List, [], ◌∷◌, ◌++◌, length, map, Option, Some, None, refl}
use Rattle.std.proofs.Common.{ap, sym, subst, ◌∙◌, arith, nat_lt, length-append}
use Rattle.std.proofs.lemmas.Bool.{cases_lt, cases_eq}
use Rattle.std.proofs.lemmas.Bool.Decides.{nat_tests}
use Rattle.std.specs.Prelude.{is_some, slice_get, slice_set}
use Rattle.pdcp_tx_store.specs.declared.given.Entry.{Entry}
use Rattle.pdcp_tx_store.specs.declared.given.Entry.TheVariants.{Data, Own, Gone}
use Rattle.pdcp_tx_store.specs.Given.{Given, is_open, trimmed, closed, acked, acked_at, entry_at, with_ack, settled}
use Rattle.pdcp_tx_store.specs.Given.{with_entry, heard, with_report, tells}
use Rattle.law_rlc.specs.AmSender.Confirmed.{times}
use Rattle.law_rlc.proofs.AmSender.Credits.{times-append}

-- ---- what PDCP keeps, by place

abbrev pub open_at : List Entry → ℕ → Bool
open_at [] k = false
open_at (e ∷ es) zero = is_open e
open_at (e ∷ es) (suc k) = open_at es k

abbrev pub BeginsOpen : List Entry → Type 0
BeginsOpen [] = Unit {0}
BeginsOpen (e ∷ es) = is_open e ≡ true

-- so many were given, and of each place that RLC has told of nothing is open
pub record Kept (g : Given) (offered : ℕ) (told : List ℕ) : Type 0 where
  pub many : g.gone + length g.entries ≡ offered
  pub closed' : (k : ℕ) → times (g.gone + k) told ≡ 1 → open_at g.entries k ≡ false

pub trimmed-front : (es : List Entry) → BeginsOpen (trimmed es)
trimmed-front [] = tt
trimmed-front (e ∷ es) = by (is_open e) refl (trimmed-front es)
  where
    by : (b : Bool) → is_open e ≡ b → BeginsOpen (trimmed es) → BeginsOpen (if b then e ∷ es else trimmed es)
    by true q ih = q
    by false q ih = ih

trimmed-length : (es : List Entry) → closed es + length (trimmed es) ≡ length es
trimmed-length [] = refl
trimmed-length (e ∷ es) = by (is_open e) (trimmed-length es)
  where
    by : (b : Bool) → closed es + length (trimmed es) ≡ length es
        → (if b then 0 else 1 + closed es) + length (if b then e ∷ es else trimmed es) ≡ suc (length es)
    by true ih = omega arith
    by false ih = omega (arith, ih)

trimmed-at : (es : List Entry) (k : ℕ) → open_at (trimmed es) k ≡ open_at es (closed es + k)
trimmed-at [] k = refl
trimmed-at (e ∷ es) k = by (is_open e) (trimmed-at es k)
  where
    by : (b : Bool) → open_at (trimmed es) k ≡ open_at es (closed es + k)
        → open_at (if b then e ∷ es else trimmed es) k ≡ open_at (e ∷ es) ((if b then 0 else 1 + closed es) + k)
    by true ih = ap (λ (n : ℕ). open_at (e ∷ es) n) (omega arith)
    by false ih = ih ∙ sym (ap (λ (n : ℕ). open_at (e ∷ es) n) shift)
      where
        shift : 1 + closed es + k ≡ suc (closed es + k)
        shift = omega arith

pub kept-settled : (g : Given) (offered : ℕ) (told : List ℕ) → Kept g offered told → Kept (settled g) offered told
kept-settled g offered told h = record {
  many = omega (arith, h.many, trimmed-length g.entries);
  closed' = λ k e.
      let at : g.gone + closed g.entries + k ≡ g.gone + (closed g.entries + k) = omega arith in
      trimmed-at g.entries k
      ∙ h.closed' (closed g.entries + k) (sym (ap (λ (n : ℕ). times n told) at) ∙ e);
}

-- one more, of which RLC has told nothing yet
last-at : (es : List Entry) (e : Entry) (k : ℕ) → k < length es → open_at (es ++ e ∷ []) k ≡ open_at es k
last-at [] e k lt = absurd (omega (arith, lt))
last-at (x ∷ xs) e zero lt = refl
last-at (x ∷ xs) e (suc k) lt = last-at xs e k (omega (arith, lt))

past-at : (es : List Entry) (k : ℕ) → length es ≤ k → open_at es k ≡ false
past-at [] k le = refl
past-at (x ∷ xs) zero le = absurd (omega (arith, le))
past-at (x ∷ xs) (suc k) le = past-at xs k (omega (arith, le))

pub kept-more : (g : Given) (e : Entry) (offered : ℕ) (told : List ℕ) → times offered told ≡ 0 → Kept g offered told
    → Kept (with_entry g e) (offered + 1) told
kept-more g e offered told none h = record {
  many = omega (arith, h.many, length-append g.entries (e ∷ []));
  closed' = λ k t. elim (cases_lt k (length g.entries)) [
    | inl old ↦ last-at g.entries e k old ∙ h.closed' k t
    | inr past ↦ elim (cases_eq k (length g.entries)) [
      | inl new ↦
          let at : g.gone + k ≡ offered = omega (arith, h.many, new) in
          let zero' : times (g.gone + k) told ≡ 0 = ap (λ (n : ℕ). times n told) at ∙ none in
          absurd (omega (arith, zero', t))
      | inr over ↦ past-at (g.entries ++ e ∷ []) k (omega (arith, past, over, length-append g.entries (e ∷ [])))
    ]
  ];
}

pub more-front : (es : List Entry) (e : Entry) → is_open e ≡ true → BeginsOpen es → BeginsOpen (es ++ e ∷ [])
more-front [] e h f = h
more-front (x ∷ xs) e h f = f

-- RLC tells of a place
acked-closed : (e : Entry) → is_open (acked e) ≡ false
acked-closed (Data s) = refl
acked-closed Own = refl
acked-closed Gone = refl

set-at : (es : List Entry) (k j : ℕ) (e : Entry) → open_at (slice_set es k (acked e)) j ≡ true → open_at es j ≡ true
set-at [] k j e h = h
set-at (x ∷ xs) zero zero e h = let no' : false ≡ true = sym (acked-closed e) ∙ h in cc
set-at (x ∷ xs) zero (suc j) e h = h
set-at (x ∷ xs) (suc k) zero e h = h
set-at (x ∷ xs) (suc k) (suc j) e h = set-at xs k j e h

set-here : (es : List Entry) (k : ℕ) (e : Entry) → open_at (slice_set es k (acked e)) k ≡ false
set-here [] k e = refl
set-here (x ∷ xs) zero e = acked-closed e
set-here (x ∷ xs) (suc k) e = set-here xs k e

get-past : (es : List Entry) (k : ℕ) → slice_get es k ≡ None → open_at es k ≡ false
get-past [] k h = refl
get-past (x ∷ xs) zero h = let no' : true ≡ false = ap (λ (o : Option Entry). is_some o) h in cc
get-past (x ∷ xs) (suc k) h = get-past xs k h

acked-length : (o : Option Entry) (es : List Entry) (k : ℕ) → length (acked_at o es k) ≡ length es
acked-length None es k = refl
acked-length (Some e) es k = set-length es k (acked e)
  where
    set-length : (xs : List Entry) (j : ℕ) (x : Entry) → length (slice_set xs j x) ≡ length xs
    set-length [] j x = refl
    set-length (y ∷ ys) zero x = refl
    set-length (y ∷ ys) (suc j) x = ap suc (set-length ys j x)

false-of : (a b : Bool) → (a ≡ true → b ≡ true) → b ≡ false → a ≡ false
false-of true b f e = let no' : true ≡ false = sym (f refl) ∙ e in cc
false-of false b f e = refl

acked-open : (o : Option Entry) (es : List Entry) (k j : ℕ) → open_at (acked_at o es k) j ≡ true → open_at es j ≡ true
acked-open None es k j h = h
acked-open (Some e) es k j h = set-at es k j e h

acked-here : (o : Option Entry) (es : List Entry) (k : ℕ) → slice_get es k ≡ o → open_at (acked_at o es k) k ≡ false
acked-here None es k h = get-past es k h
acked-here (Some e) es k h = set-here es k e

pub kept-acked : (g : Given) (place offered : ℕ) (told : List ℕ) → Kept g offered told
    → Kept (with_ack g place) offered (told ++ place ∷ [])
kept-acked g place offered told h = record {
  many = omega (arith, h.many, acked-length (entry_at g place) g.entries (place - g.gone));
  closed' = λ k t. by k (cases_eq place (g.gone + k)) t;
}
  where
    by : (k : ℕ) → (place ≡ g.gone + k) ⊎ (place ≡ g.gone + k → ⊥) → times (g.gone + k) (told ++ place ∷ []) ≡ 1
        → open_at (with_ack g place).entries k ≡ false
    by k (inl here) t =
        let test : nat_lt place g.gone ≡ false = grind (arith, nat_tests, here) in
        let at : place - g.gone ≡ k = omega (arith, here) in
        rw test (subst (λ (j : ℕ). open_at (acked_at (slice_get g.entries j) g.entries j) k ≡ false) (sym at)
        (acked-here (slice_get g.entries k) g.entries k refl))
    by k (inr other) t =
        let away : (place == g.gone + k) ≡ false = grind (arith, nat_tests, other) in
        let zero' : times (g.gone + k) (place ∷ []) ≡ 0 = rw away refl in
        let was : times (g.gone + k) told ≡ 1 = omega (arith, t, zero', times-append (g.gone + k) told (place ∷ [])) in
        false-of (open_at (with_ack g place).entries k) (open_at g.entries k)
        (acked-open (entry_at g place) g.entries (place - g.gone) k) (h.closed' k was)

-- a report tells of some
heard-open : (from : ℕ) (bitmap : List ℕ) (es : List Entry) (k : ℕ)
    → open_at (map (heard from bitmap) es) k ≡ true → open_at es k ≡ true
heard-open from bitmap [] k h = h
heard-open from bitmap (Data s ∷ es) zero h = by (tells from bitmap s.count) h
  where
    by : (b : Bool) → is_open (if b then Gone else Data s) ≡ true → not s.acked ≡ true
    by true q = let no' : false ≡ true = q in cc
    by false q = q
heard-open from bitmap (Own ∷ es) zero h = refl
heard-open from bitmap (Gone ∷ es) zero h = h
heard-open from bitmap (Data s ∷ es) (suc k) h = heard-open from bitmap es k h
heard-open from bitmap (Own ∷ es) (suc k) h = heard-open from bitmap es k h
heard-open from bitmap (Gone ∷ es) (suc k) h = heard-open from bitmap es k h

heard-length : (from : ℕ) (bitmap : List ℕ) (es : List Entry) → length (map (heard from bitmap) es) ≡ length es
heard-length from bitmap [] = refl
heard-length from bitmap (e ∷ es) = ap suc (heard-length from bitmap es)

pub kept-heard : (g : Given) (from : ℕ) (bitmap : List ℕ) (offered : ℕ) (told : List ℕ) → Kept g offered told
    → Kept (with_report g from bitmap) offered told
kept-heard g from bitmap offered told h = record {
  many = omega (arith, h.many, heard-length from bitmap g.entries);
  closed' = λ k t. false-of (open_at (map (heard from bitmap) g.entries) k) (open_at g.entries k)
      (heard-open from bitmap g.entries k) (h.closed' k t);
}
