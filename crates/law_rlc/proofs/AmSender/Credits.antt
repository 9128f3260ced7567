-- What is owed of each SDU, and how often it is confirmed.
use Rattle.std.proofs.Common.{◌≡◌, ◌<◌, ◌≤◌, inl, inr, ℕ, suc, zero, ◌+◌, ◌-◌, Bool, true, false, ◌&&◌, ◌==◌}
use Rattle.std.proofs.Common.{if◌then◌else◌, List, [], ◌∷◌, ◌++◌, length, drop, slice_get, refl, ap, sym, subst, ◌∙◌}
use Rattle.std.proofs.Common.{arith, nat_le, nat_lt, append_assoc}
use Rattle.std.proofs.lemmas.Grind.{common_steps}
use Rattle.std.proofs.lemmas.Bool.Decides.{nat_tests}
use Rattle.std.proofs.lemmas.Bool.{cases_eq}
use Rattle.std.proofs.lemmas.List.{append-nil}
use Rattle.rlc_am_tx_window.specs.Ledger.{Owed, Ledger, paid_at, is_last_of, credited, credited_all, leading_paid}
use Rattle.rlc_am_tx_window.specs.Numbers.{Ascend}
use Rattle.rlc_am_tx_window.proofs.LedgerSteps.{length-paid}
use Rattle.law_rlc.specs.AmSender.Confirmed.{times}

-- the octets of a place, of elements of SDUs from a place on
abbrev pub octets_at : ℕ → List ℕ → ℕ → ℕ
octets_at from [] place = 0
octets_at from (n ∷ ns) place = (if from == place then n else 0) + octets_at (from + 1) ns place

abbrev pub one : ℕ → ℕ → ℕ → ℕ
one place n p = if place == p then n else 0

pub one-same : (place n p : ℕ) → place ≡ p → one place n p ≡ n
one-same place n p e = grind (arith, nat_tests)

pub one-other : (place n p : ℕ) → (place ≡ p → ⊥) → one place n p ≡ 0
one-other place n p away = let e : (place == p) ≡ false = grind (arith, nat_tests) in rw e refl

pub at-append : (from : ℕ) (xs : List ℕ) (n p : ℕ)
    → octets_at from (xs ++ n ∷ []) p ≡ octets_at from xs p + one (from + length xs) n p
at-append from [] n p = let e = (let q : from ≡ from + 0 = omega arith in ap (λ (k : ℕ). one k n p) q) in
    omega (arith, e)
at-append from (x ∷ xs) n p =
    let ih = at-append (from + 1) xs n p in
    let e = (let q : from + 1 + length xs ≡ from + suc (length xs) = omega arith in ap (λ (k : ℕ). one k n p) q) in
    omega (arith, ih, e)

pub at-past : (from : ℕ) (xs : List ℕ) (p : ℕ) → from + length xs ≤ p → octets_at from xs p ≡ 0
at-past from [] p le = refl
at-past from (x ∷ xs) p le = let ih = at-past (from + 1) xs p (omega arith) in
    let a = one-other from x p (λ e. omega arith) in omega (arith, ih, a)

-- what is owed of a place, of entries from a place on
abbrev pub owed_in : ℕ → List Owed → ℕ → ℕ
owed_in from [] p = 0
owed_in from (o ∷ os) p = one from o.owed p + owed_in (from + 1) os p

abbrev pub owed_at : Ledger → ℕ → ℕ
owed_at l p = owed_in l.oldest l.entries p

pub owed-append : (from : ℕ) (os : List Owed) (o : Owed) (p : ℕ)
    → owed_in from (os ++ o ∷ []) p ≡ owed_in from os p + one (from + length os) o.owed p
owed-append from [] o p = let e = (let q : from ≡ from + 0 = omega arith in ap (λ (k : ℕ). one k o.owed p) q) in
    omega (arith, e)
owed-append from (x ∷ xs) o p =
    let ih = owed-append (from + 1) xs o p in
    let e = (let q : from + 1 + length xs ≡ from + suc (length xs) = omega arith in ap (λ (k : ℕ). one k o.owed p) q) in
    omega (arith, ih, e)

owed-below : (from : ℕ) (os : List Owed) (p : ℕ) → p < from → owed_in from os p ≡ 0
owed-below from [] p lt = refl
owed-below from (x ∷ xs) p lt = let ih = owed-below (from + 1) xs p (omega arith) in
    let a = one-other from x.owed p (λ e. omega arith) in omega (arith, ih, a)

-- octets are acknowledged

pub paid-zero : (o : Owed) (os : List Owed) (n : ℕ)
    → paid_at (slice_get (o ∷ os) 0) (o ∷ os) 0 n ≡ record { size = o.size; owed = o.owed - n } ∷ os
paid-zero o os n = grind (arith, common_steps)

pub paid-suc : (o : Owed) (os : List Owed) (at n : ℕ)
    → paid_at (slice_get (o ∷ os) (suc at)) (o ∷ os) (suc at) n ≡ o ∷ paid_at (slice_get os at) os at n
paid-suc o os at n = grind (arith, common_steps)

pub paid-none : (at n : ℕ) → paid_at (slice_get [] at) [] at n ≡ []
paid-none at n = grind (arith, common_steps)

owed-paid : (from : ℕ) (os : List Owed) (at n p : ℕ)
    → owed_in from (paid_at (slice_get os at) os at n) p ≡ owed_in from os p - one (from + at) n p
owed-paid from [] at n p = ap (λ (xs : List Owed). owed_in from xs p) (paid-none at n) ∙ omega arith
owed-paid from (o ∷ os) zero n p = ap (λ (xs : List Owed). owed_in from xs p) (paid-zero o os n)
    ∙ elim (cases_eq from p) [
      | inl same ↦ let a = one-same from (o.owed - n) p same in let b = one-same from o.owed p same in
          let c = one-same (from + 0) n p (omega (arith, same)) in
          let d = owed-below (from + 1) os p (omega (arith, same)) in omega (arith, a, b, c, d)
      | inr other ↦ let a = one-other from (o.owed - n) p other in let b = one-other from o.owed p other in
          let c = one-other (from + 0) n p (λ e. other (omega (arith, e))) in omega (arith, a, b, c)
    ]
owed-paid from (o ∷ os) (suc at) n p = ap (λ (xs : List Owed). owed_in from xs p) (paid-suc o os at n) ∙
    let ih = owed-paid (from + 1) os at n p in
    let e = (let q : from + 1 + at ≡ from + suc at = omega arith in ap (λ (k : ℕ). one k n p) q) in
    elim (cases_eq from p) [
      | inl same ↦ let c = one-other (from + suc at) n p (λ x. omega (arith, x, same)) in omega (arith, ih, e, c)
      | inr other ↦ let b = one-other from o.owed p other in omega (arith, ih, e, b)
    ]

abbrev pub is_last_owed : ℕ → ℕ → Bool
is_last_owed k n = nat_lt 0 k && nat_le k n

owed-last : (from : ℕ) (os : List Owed) (at n : ℕ)
    → is_last_of (slice_get os at) n ≡ is_last_owed (owed_in from os (from + at)) n
owed-last from [] at n = grind (arith, common_steps, nat_tests)
owed-last from (o ∷ os) zero n =
    let a = one-same from o.owed (from + 0) (omega arith) in
    let d = owed-below (from + 1) os (from + 0) (omega arith) in
    let e : o.owed ≡ owed_in from (o ∷ os) (from + 0) = omega (arith, a, d) in ap (λ (k : ℕ). is_last_owed k n) e
owed-last from (o ∷ os) (suc at) n =
    let a = one-other from o.owed (from + suc at) (λ x. omega (arith, x)) in
    let c = (let q : from + 1 + at ≡ from + suc at = omega arith in ap (λ (k : ℕ). owed_in (from + 1) os k) q) in
    let e : owed_in (from + 1) os (from + 1 + at) ≡ owed_in from (o ∷ os) (from + suc at) = omega (arith, a, c) in
    owed-last (from + 1) os at n ∙ ap (λ (k : ℕ). is_last_owed k n) e

pub owed-credited : (l : Ledger) (place n p : ℕ) → owed_at (credited l place n) p ≡ owed_at l p - one place n p
owed-credited l place n p = by (nat_lt place l.oldest) refl
  where
    by : (b : Bool) → nat_lt place l.oldest ≡ b
        → owed_at (if b then l else record {
          oldest = l.oldest;
          entries = paid_at (slice_get l.entries (place - l.oldest)) l.entries (place - l.oldest) n;
          news = if is_last_of (slice_get l.entries (place - l.oldest)) n then l.news ++ place ∷ [] else l.news;
        }) p
        ≡ owed_at l p - one place n p
    by true e = let lt : place < l.oldest = grind (arith, nat_tests) in elim (cases_eq place p) [
      | inl same ↦ let z = owed-below l.oldest l.entries p (omega (arith, lt, same)) in omega (arith, z)
      | inr other ↦ let z = one-other place n p other in omega (arith, z)
    ]
    by false e = let le : l.oldest ≤ place = grind (arith, nat_tests) in
        owed-paid l.oldest l.entries (place - l.oldest) n p
        ∙ (let q : l.oldest + (place - l.oldest) ≡ place = omega arith in ap (λ (k : ℕ). owed_at l p - one k n p) q)

-- how often a place stands in a list

pub times-append : (p : ℕ) (xs ys : List ℕ) → times p (xs ++ ys) ≡ times p xs + times p ys
times-append p [] ys = omega arith
times-append p (x ∷ xs) ys = let ih = times-append p xs ys in omega (arith, ih)

-- a place is counted so often, so much is owed of it, and it has so many octets
pub record Counted (t k z : ℕ) : Type 0 where
  pub count : t ≡ (if nat_lt 0 z && (k == 0) then 1 else 0)
  pub bound : k ≤ z

counted-step : (t k z n : ℕ) → Counted t k z → Counted (t + (if is_last_owed k n then 1 else 0)) (k - n) z
counted-step t k z n c = let a = c.count in let b = c.bound in
    record { count = grind (arith, nat_tests, a, b); bound = omega (arith, b) }

abbrev pub Tells : List ℕ → List ℕ → Ledger → Type 0
Tells sizes given l = (p : ℕ) → Counted (times p (given ++ l.news)) (owed_at l p) (octets_at 0 sizes p)

-- numbers go from one to another, none below the one before
abbrev pub Between : ℕ → ℕ → List ℕ → Type 0
Between lo hi [] = lo ≤ hi
Between lo hi (x ∷ xs) = (lo ≤ x) × Between x hi xs

between-low : (a lo hi : ℕ) (xs : List ℕ) → a ≤ lo → Between lo hi xs → Between a hi xs
between-low a lo hi [] le b = omega (arith, le, b)
between-low a lo hi (x ∷ xs) le b = let b0 = b.0 in (omega (arith, le, b0), b.1)

between-append : (a b c : ℕ) (xs ys : List ℕ) → Between a b xs → Between b c ys → Between a c (xs ++ ys)
between-append a b c [] ys h g = between-low a b c ys h g
between-append a b c (x ∷ xs) ys h g = (h.0, between-append x b c xs ys h.1 g)

-- what credits leave of a ledger's places: those told before, and others behind them
abbrev pub Grows : ℕ → ℕ → Ledger → Ledger → Type 0
Grows lo hi l m = (later : List ℕ) × ((m.news ≡ l.news ++ later) × Between lo hi later)

pub grows-same : (lo hi : ℕ) (l m : Ledger) → lo ≤ hi → m.news ≡ l.news → Grows lo hi l m
grows-same lo hi l m le e = ([], (e ∙ sym (append-nil l.news), le))

pub grows-on : (a b c : ℕ) (l m n : Ledger) → Grows a b l m → Grows b c m n → Grows a c l n
grows-on a b c l m n g h = (
  g.0 ++ h.0,
  (
    h.1.0 ∙ (ap (λ (xs : List ℕ). xs ++ h.0) g.1.0 ∙ append_assoc l.news g.0 h.0),
    between-append a b c g.0 h.0 g.1.1 h.1.1,
  ),
)

credited-grows : (lo : ℕ) (l : Ledger) (place n : ℕ) → lo ≤ place → Grows lo place l (credited l place n)
credited-grows lo l place n le = by (nat_lt place l.oldest)
  where
    news : (b : Bool) → (later : List ℕ)
        × (((if b then l.news ++ place ∷ [] else l.news) ≡ l.news ++ later) × Between lo place later)
    news true = (place ∷ [], (refl, (le, omega arith)))
    news false = ([], (sym (append-nil l.news), le))

    by : (b : Bool)
        → Grows lo place l (if b then l else record {
          oldest = l.oldest;
          entries = paid_at (slice_get l.entries (place - l.oldest)) l.entries (place - l.oldest) n;
          news = if is_last_of (slice_get l.entries (place - l.oldest)) n then l.news ++ place ∷ [] else l.news;
        })
    by true = grows-same lo place l l le refl
    by false = news (is_last_of (slice_get l.entries (place - l.oldest)) n)

pub credited-news : (l : Ledger) (place n p : ℕ)
    → times p (credited l place n).news ≡ times p l.news
    + (if is_last_owed (owed_at l p) (one place n p) then 1 else 0)
credited-news l place n p = by (nat_lt place l.oldest) refl
  where
    none : (k : ℕ) → is_last_owed k 0 ≡ false
    none k = grind (arith, nat_tests)

    off : (place ≡ p → ⊥)
        → times p l.news ≡ times p l.news + (if is_last_owed (owed_at l p) (one place n p) then 1 else 0)
    off away = let z = one-other place n p away in let f = none (owed_at l p) in rw (z, f) (omega arith)

    more : (b : Bool) → (place ≡ p) → times p (if b then l.news ++ place ∷ [] else l.news)
        ≡ times p l.news + (if b then 1 else 0)
    more true e = let a = times-append p l.news (place ∷ []) in let o = one-same place 1 p e in omega (arith, a, o)
    more false e = omega arith

    less : (b : Bool) → (place ≡ p → ⊥) → times p (if b then l.news ++ place ∷ [] else l.news) ≡ times p l.news
    less true away = let a = times-append p l.news (place ∷ []) in let o = one-other place 1 p away in
        omega (arith, a, o)
    less false away = refl

    by : (b : Bool) → nat_lt place l.oldest ≡ b
        → times p (if b then l else record {
          oldest = l.oldest;
          entries = paid_at (slice_get l.entries (place - l.oldest)) l.entries (place - l.oldest) n;
          news = if is_last_of (slice_get l.entries (place - l.oldest)) n then l.news ++ place ∷ [] else l.news;
        }).news
        ≡ times p l.news + (if is_last_owed (owed_at l p) (one place n p) then 1 else 0)
    by true e = let lt : place < l.oldest = grind (arith, nat_tests) in elim (cases_eq place p) [
      | inl same ↦ let z = owed-below l.oldest l.entries p (omega (arith, lt, same)) in rw z (omega arith)
      | inr other ↦ off other
    ]
    by false e = let le : l.oldest ≤ place = grind (arith, nat_tests) in elim (cases_eq place p) [
      | inl same ↦
          let o = one-same place n p same in
          let at : l.oldest + (place - l.oldest) ≡ p = omega (arith, le, same) in
          let last = owed-last l.oldest l.entries (place - l.oldest) n
          ∙ ap (λ (k : ℕ). is_last_owed (owed_at l k) n) at in
          let last' = last ∙ ap (λ (k : ℕ). is_last_owed (owed_at l p) k) (sym o) in
          more (is_last_of (slice_get l.entries (place - l.oldest)) n) same
          ∙ ap (λ (b : Bool). times p l.news + (if b then 1 else 0)) last'
      | inr other ↦ less (is_last_of (slice_get l.entries (place - l.oldest)) n) other ∙ off other
    ]

pub tells-credited : (sizes given : List ℕ) (l : Ledger) (place n : ℕ) → Tells sizes given l
    → Tells sizes given (credited l place n)
tells-credited sizes given l place n t p =
    let a = times-append p given l.news in let b = times-append p given (credited l place n).news in
    let c = credited-news l place n p in
    let e : times p (given ++ l.news) + (if is_last_owed (owed_at l p) (one place n p) then 1 else 0)
    ≡ times p (given ++ (credited l place n).news) = omega (arith, a, b, c) in
    subst (λ (k : ℕ). Counted k (owed_at (credited l place n) p) (octets_at 0 sizes p)) e
    (subst
    (λ (k : ℕ). Counted
    (times p (given ++ l.news) + (if is_last_owed (owed_at l p) (one place n p) then 1 else 0)) k
    (octets_at 0 sizes p)) (sym (owed-credited l place n p))
    (counted-step (times p (given ++ l.news)) (owed_at l p) (octets_at 0 sizes p) (one place n p) (t p)))

pub tells-all : (sizes given : List ℕ) (l : Ledger) (place : ℕ) (ns : List ℕ) → Tells sizes given l
    → Tells sizes given (credited_all l place ns)
tells-all sizes given l place [] t = t
tells-all sizes given l place (n ∷ ns) t =
    tells-all sizes given (credited l place n) (place + 1) ns (tells-credited sizes given l place n t)

pub all-grows : (lo hi : ℕ) (l : Ledger) (place : ℕ) (ns : List ℕ) → lo ≤ hi → lo ≤ place → place + length ns ≤ hi + 1
    → Grows lo hi l (credited_all l place ns)
all-grows lo hi l place [] a b c = grows-same lo hi l l a refl
all-grows lo hi l place (n ∷ ns) a b c =
    grows-on lo place hi l (credited l place n) (credited_all (credited l place n) (place + 1) ns)
    (credited-grows lo l place n b)
    (all-grows place hi (credited l place n) (place + 1) ns (omega (arith, c)) (omega arith) (omega (arith, c)))

pub owed-all : (l : Ledger) (place : ℕ) (ns : List ℕ) (p rest : ℕ) → owed_at l p ≡ octets_at place ns p + rest
    → owed_at (credited_all l place ns) p ≡ rest
owed-all l place [] p rest e = omega (arith, e)
owed-all l place (n ∷ ns) p rest e =
    owed-all (credited l place n) (place + 1) ns p rest (let c = owed-credited l place n p in omega (arith, e, c))

-- how many were offered stays

abbrev pub offers : Ledger → ℕ
offers l = l.oldest + length l.entries

pub credited-offers : (l : Ledger) (place n : ℕ) → offers (credited l place n) ≡ offers l
credited-offers l place n = by (nat_lt place l.oldest)
  where
    by : (b : Bool)
        → offers (if b then l else record {
          oldest = l.oldest;
          entries = paid_at (slice_get l.entries (place - l.oldest)) l.entries (place - l.oldest) n;
          news = if is_last_of (slice_get l.entries (place - l.oldest)) n then l.news ++ place ∷ [] else l.news;
        })
        ≡ offers l
    by true = refl
    by false = ap (λ (k : ℕ). l.oldest + k) (length-paid l.entries (place - l.oldest) n)

pub all-offers : (l : Ledger) (place : ℕ) (ns : List ℕ) → offers (credited_all l place ns) ≡ offers l
all-offers l place [] = refl
all-offers l place (n ∷ ns) = all-offers (credited l place n) (place + 1) ns ∙ credited-offers l place n

-- entries of which nothing is owed are dropped

pub swept-offers : (from : ℕ) (os : List Owed)
    → from + leading_paid os + length (drop (leading_paid os) os) ≡ from + length os
swept-offers from [] = omega arith
swept-offers from (o ∷ os) = by (o.owed == 0) (swept-offers from os)
  where
    by : (b : Bool) → from + leading_paid os + length (drop (leading_paid os) os) ≡ from + length os
        → from + (if b then leading_paid os + 1 else 0)
        + length (drop (if b then leading_paid os + 1 else 0) (o ∷ os)) ≡ from + suc (length os)
    by true ih = let c : length (drop (leading_paid os + 1) (o ∷ os)) ≡ length (drop (leading_paid os) os) =
        grind (arith, common_steps) in omega (arith, ih, c)
    by false ih = omega arith

pub owed-swept : (from : ℕ) (os : List Owed) (p : ℕ)
    → owed_in (from + leading_paid os) (drop (leading_paid os) os) p ≡ owed_in from os p
owed-swept from [] p = refl
owed-swept from (o ∷ os) p = by (o.owed == 0) refl (owed-swept (from + 1) os p)
  where
    zero-one : (place k p : ℕ) → k ≡ 0 → one place k p ≡ 0
    zero-one place k p e = grind (arith, nat_tests, e)

    by : (b : Bool) → (o.owed == 0) ≡ b → owed_in (from + 1 + leading_paid os) (drop (leading_paid os) os) p
        ≡ owed_in (from + 1) os p
        → owed_in (from + (if b then leading_paid os + 1 else 0))
        (drop (if b then leading_paid os + 1 else 0) (o ∷ os)) p ≡ one from o.owed p + owed_in (from + 1) os p
    by true e ih =
        let c : drop (leading_paid os + 1) (o ∷ os) ≡ drop (leading_paid os) os = grind (arith, common_steps) in
        let n : from + (leading_paid os + 1) ≡ from + 1 + leading_paid os = omega arith in
        let z = zero-one from o.owed p (grind (arith, nat_tests)) in
        ap (λ (xs : List Owed). owed_in (from + (leading_paid os + 1)) xs p) c
        ∙ (ap (λ (k : ℕ). owed_in k (drop (leading_paid os) os) p) n ∙ omega (arith, z, ih))
    by false e ih = let n : from + 0 ≡ from = omega arith in ap (λ (k : ℕ). owed_in k (o ∷ os) p) n

-- places that rise, each once, ascend
above-it : (x hi : ℕ) (xs : List ℕ) → Between x hi xs → times x xs ≡ 0 → Between (x + 1) (hi + 1) xs
above-it x hi [] b t = omega (arith, b)
above-it x hi (y ∷ ys) b t = elim (cases_eq y x) [
  | inl same ↦ let o = one-same y 1 x same in absurd (omega (arith, t, o))
  | inr other ↦ let b0 = b.0 in (omega (arith, b0, other), between-high y hi ys b.1)
]
  where
    between-high : (lo hi : ℕ) (xs : List ℕ) → Between lo hi xs → Between lo (hi + 1) xs
    between-high lo hi [] b = omega (arith, b)
    between-high lo hi (x ∷ xs) b = (b.0, between-high x hi xs b.1)

pub ascends : (lo hi : ℕ) (xs : List ℕ) → Between lo hi xs → ((p : ℕ) → times p xs ≤ 1) → Ascend lo xs
ascends lo hi [] b t = tt
ascends lo hi (x ∷ xs) b t = (
  b.0,
  ascends (x + 1) (hi + 1) xs (above-it x hi xs b.1 (let a = t x in let o = one-same x 1 x refl in
      omega (arith, a, o))) (λ p. let a = t p in omega (arith, a)),
)
