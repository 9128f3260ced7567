-- Sizes that stand one behind the other, and what has come at their places.
use Rattle.std.proofs.Common.{◌≡◌, ◌<◌, ◌≤◌, ℕ, zero, suc, ◌+◌, ◌-◌, Bool, true, false, List, [], ◌∷◌, ◌++◌, length}
use Rattle.std.proofs.Common.{drop}
use Rattle.std.proofs.Common.{Option, Some, None, slice_get, inl, inr, refl, ap, sym, ◌∙◌, arith, nat_lt, if◌then◌else◌}
use Rattle.std.specs.Prelude.{MatchOption, is_none}
use Rattle.std.proofs.lemmas.Bool.{cases_lt, lt-ltb, le-ltb}
use Rattle.rlc_pdu.specs.declared.pdu.Part.{Part}
use Rattle.rlc_pdu.specs.Runs.{has, AreAscending, gap_in}
use Rattle.rlc_pdu.specs.Places.{IsGap}
use Rattle.rlc_pdu.proofs.PlaceLaws.{gaps_are_first}
use Rattle.journal_account.specs.Stream.{place_of, came_along}
use Rattle.journal_account.specs.FlowArrivals.{FieldArrivals, field_at, up_to_gap, leading_octets, whole_first}
use Rattle.journal_account.specs.FlowArrivals.{octets_first, is_whole}
use Rattle.journal_account.proofs.ByPlace.{sizes, whole_at}

-- ---- where sizes begin

pub place_left : (xs ys : List ℕ) (n : ℕ) → n ≤ length xs → place_of (xs ++ ys) n ≡ place_of xs n
place_left [] [] n le = refl
place_left [] (y ∷ ys) zero le = refl
place_left [] (y ∷ ys) (suc n) le = absurd (omega arith)
place_left (x ∷ xs) ys zero le = refl
place_left (x ∷ xs) ys (suc n) le = ap (λ (k : ℕ). x + k) (place_left xs ys n (omega arith))

pub place_pushed : (xs : List ℕ) (s : ℕ) → place_of (xs ++ s ∷ []) (suc (length xs)) ≡ place_of xs (length xs) + s
place_pushed [] s = omega arith
place_pushed (x ∷ xs) s = omega (arith, place_pushed xs s)

pub place_more : (xs : List ℕ) (f c : ℕ) → place_of xs (f + c) ≡ place_of xs f + place_of (drop f xs) c
place_more [] zero c = refl
place_more [] (suc f) c = refl
place_more (x ∷ xs) zero c = let same : 0 + c ≡ c = omega arith in
    ap (place_of (x ∷ xs)) same ∙ omega arith
place_more (x ∷ xs) (suc f) c = let same : suc f + c ≡ suc (f + c) = omega arith in
    ap (place_of (x ∷ xs)) same ∙ omega (arith, place_more xs f c)

pub first_place : (fields : List FieldArrivals) → octets_first fields ≡ place_of (sizes fields) (whole_first fields)
first_place [] = refl
first_place (f ∷ fs) = step (is_whole f) (first_place fs)
  where
    step : (b : Bool) → octets_first fs ≡ place_of (sizes fs) (whole_first fs)
        → (if b then f.size + octets_first fs else 0)
        ≡ place_of (f.size ∷ sizes fs) (if b then whole_first fs + 1 else 0)
    step true e =
        let same : whole_first fs + 1 ≡ suc (whole_first fs) = omega arith in
        ap (λ (k : ℕ). f.size + k) e ∙ sym (ap (place_of (f.size ∷ sizes fs)) same)
    step false e = refl

-- ---- what has come along them

pub along_behind : (came : ℕ → ℕ → Bool) (xs : List ℕ) (f n q : ℕ) → f ≤ length xs
    → came_along came xs n (place_of xs f + q) ≡ came_along came (drop f xs) (n + f) q
along_behind came [] zero n q le = refl
along_behind came [] (suc f) n q le = absurd (omega arith)
along_behind came (x ∷ xs) zero n q le =
    let at : 0 + q ≡ q = omega arith in
    let same : n ≡ n + 0 = omega arith in
    ap (λ (p : ℕ). came_along came (x ∷ xs) n p) at ∙ ap (λ (m : ℕ). came_along came (x ∷ xs) m q) same
along_behind came (x ∷ xs) (suc f) n q le =
    let past : nat_lt (x + place_of xs f + q) x ≡ false = le-ltb (x + place_of xs f + q) x (omega arith) in
    let rest : x + place_of xs f + q - x ≡ place_of xs f + q = omega arith in
    let same : n + 1 + f ≡ n + suc f = omega arith in
    ap
    (λ (b : Bool). if b then came n (x + place_of xs f + q)
    else came_along came xs (n + 1) (x + place_of xs f + q - x)) past
    ∙ ap (λ (p : ℕ). came_along came xs (n + 1) p) rest ∙ along_behind came xs f (n + 1) q (omega arith)
    ∙ ap (λ (m : ℕ). came_along came (drop f xs) m q) same

-- all of the first numbers has come
pub along_before : (came : ℕ → ℕ → Bool) (xs : List ℕ) (f n p : ℕ) → f ≤ length xs → p < place_of xs f
    → ((m s i : ℕ) → m < f → slice_get xs m ≡ Some s → i < s → came (n + m) i ≡ true)
    → came_along came xs n p ≡ true
along_before came [] f n p le lt all = absurd (omega arith)
along_before came (x ∷ xs) zero n p le lt all = absurd (omega arith)
along_before came (x ∷ xs) (suc f) n p le lt all = elim (cases_lt p x) [
  | inl in_it ↦
      let same : n + 0 ≡ n = omega arith in
      ap (λ (b : Bool). if b then came n p else came_along came xs (n + 1) (p - x)) (lt-ltb p x in_it)
      ∙ ap (λ (m : ℕ). came m p) (sym same) ∙ all 0 x p (omega arith) refl in_it
  | inr past ↦
      ap (λ (b : Bool). if b then came n p else came_along came xs (n + 1) (p - x)) (le-ltb p x past)
      ∙ along_before came xs f (n + 1) (p - x) (omega arith) (omega arith) (λ m s i l is small.
      let same : n + 1 + m ≡ n + suc m = omega arith in
      ap (λ (k : ℕ). came k i) same ∙ all (suc m) s i (omega arith) is small)
]

-- what came stays, and further numbers stand behind
pub along_more : (came more : ℕ → ℕ → Bool) (xs ys : List ℕ) (n p : ℕ)
    → ((m i : ℕ) → came m i ≡ true → more m i ≡ true) → came_along came xs n p ≡ true
    → came_along more (xs ++ ys) n p ≡ true
along_more came more [] ys n p up e = absurd cc
along_more came more (x ∷ xs) ys n p up e = step (nat_lt p x) e (λ d. along_more came more xs ys (n + 1) (p - x) up d)
  where
    step : (b : Bool) → (if b then came n p else came_along came xs (n + 1) (p - x)) ≡ true
        → (came_along came xs (n + 1) (p - x) ≡ true → came_along more (xs ++ ys) (n + 1) (p - x) ≡ true)
        → (if b then more n p else came_along more (xs ++ ys) (n + 1) (p - x)) ≡ true
    step true d rest = up n p d
    step false d rest = rest d

-- ---- the first place that hasn't come

pub record IsFirstGap (came : ℕ → ℕ → Bool) (fields : List FieldArrivals) (n : ℕ) : Type 0 where
  pub here : came_along came (sizes fields) n (leading_octets (field_at fields 0)) ≡ false
  pub before : (q : ℕ) → q < leading_octets (field_at fields 0) → came_along came (sizes fields) n q ≡ true

pub gap_first : (came : ℕ → ℕ → Bool) (fields : List FieldArrivals) (n : ℕ) → AreAscending 0 (field_at fields 0).came
    → ((i : ℕ) → has (field_at fields 0).came i ≡ came n i) → whole_at fields 0 ≡ false → IsFirstGap came fields n
gap_first came [] n up same open' = record { here = refl; before = λ q lt. absurd (omega arith) }
gap_first came (f ∷ fs) n up same open' =
    let found = go (gap_in f.came 0 f.size) (gaps_are_first f.came 0 f.size up) open' in
    record { here = found.0; before = found.1 }
  where
    at : (q : ℕ) → q < f.size → came_along came (f.size ∷ sizes fs) n q ≡ has f.came q
    at q lt = ap (λ (b : Bool). if b then came n q else came_along came (sizes fs) (n + 1) (q - f.size))
        (lt-ltb q f.size lt) ∙ sym (same q)

    go : (o : Option Part)
        → MatchOption o ((i : ℕ) → 0 ≤ i → i < f.size → has f.came i ≡ true) (IsGap f.came 0 f.size)
        → is_none o ≡ false
        → (came_along came (f.size ∷ sizes fs) n (up_to_gap o f.size) ≡ false)
        × ((q : ℕ) → q < up_to_gap o f.size → came_along came (f.size ∷ sizes fs) n q ≡ true)
    go None all e = absurd cc
    go (Some p) gap e =
        let lt : p.start < f.size = omega (arith, gap.some, gap.below) in (
          at p.start lt ∙ gap.missing p.start (omega arith) gap.some,
          λ q below. at q (omega arith) ∙ gap.first q (omega arith) below,
        )
