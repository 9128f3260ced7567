-- Items of a list by their places.
use Rattle.std.proofs.Common.{◌≡◌, ◌≢◌, ◌⊎◌, ◌<◌, ◌≤◌, ℕ, suc, zero, ◌+◌, List, [], ◌∷◌, ◌++◌, length, drop, Some, None}
use Rattle.std.proofs.Common.{slice_get, slice_index_or, ⊎_elim, inl, inr, subst, refl, ap, sym, ◌∙◌, arith}
use Rattle.std.proofs.lemmas.Bool.{cases_eq}
use Rattle.l2_num.specs.Ascending.{AreBetween}
use Rattle.law_words.specs.Lists.{IsSubsequence}
use Rattle.law_words.specs.Lists.{those}

-- ---- an item

-- one behind them is the last
pub get_push : {A : Type 0} (xs : List A) (y : A) (k : ℕ) (x : A) → slice_get (xs ++ y ∷ []) k ≡ Some x
    → (slice_get xs k ≡ Some x) ⊎ ((k ≡ length xs) × (y ≡ x))
get_push [] y zero x e = let some : Some y ≡ Some x = e in inr (refl, cc)
get_push [] y (suc k) x e = let no : None ≡ Some x = e in absurd cc
get_push (z ∷ xs) y zero x e = inl e
get_push (z ∷ xs) y (suc k) x e =
    ⊎_elim (λ (h : slice_get xs k ≡ Some x). inl h) (λ (h : (k ≡ length xs) × (y ≡ x)). inr (omega (arith, h.0), h.1))
    (get_push xs y k x e)

pub index_of : (xs : List (List ℕ)) (k : ℕ) (x : List ℕ) → slice_get xs k ≡ Some x → slice_index_or xs k [] ≡ x
index_of [] k x e = absurd cc
index_of (y ∷ xs) zero x e = cc
index_of (y ∷ xs) (suc k) x e = index_of xs k x e

pub get_at : {A : Type 0} (xs : List A) (k : ℕ) → k < length xs → (x : A) × (slice_get xs k ≡ Some x)
get_at [] k lt = absurd (omega (arith, lt))
get_at (y ∷ xs) zero lt = (y, refl)
get_at (y ∷ xs) (suc k) lt = get_at xs k (omega (arith, lt))

index_more : (xs ys : List (List ℕ)) (k : ℕ) → k < length xs → slice_index_or (xs ++ ys) k [] ≡ slice_index_or xs k []
index_more [] ys k lt = absurd (omega (arith, lt))
index_more (x ∷ xs) ys zero lt = refl
index_more (x ∷ xs) ys (suc k) lt = index_more xs ys k (omega (arith, lt))

-- ---- some places that ascend

pub between_end : (low : ℕ) (ks : List ℕ) (end : ℕ) → AreBetween low ks end → low ≤ end
between_end low [] end h = h
between_end low (k ∷ ks) end h = omega (arith, h.0, between_end (k + 1) ks end h.1)

pub between_more : (low : ℕ) (ks : List ℕ) (end more : ℕ) → AreBetween low ks end → end ≤ more → AreBetween low ks more
between_more low [] end more h le = omega (arith, h, le)
between_more low (k ∷ ks) end more h le = (h.0, between_more (k + 1) ks end more h.1 le)

pub between_push : (low : ℕ) (ks : List ℕ) (end k : ℕ) → AreBetween low ks end → end ≤ k
    → AreBetween low (ks ++ k ∷ []) (k + 1)
between_push low [] end k h le = (omega (arith, h, le), omega arith)
between_push low (x ∷ ks) end k h le = (h.0, between_push (x + 1) ks end k h.1 le)

pub those_push : (ks : List ℕ) (k : ℕ) (sdus : List (List ℕ))
    → those (ks ++ k ∷ []) sdus ≡ those ks sdus ++ slice_index_or sdus k [] ∷ []
those_push [] k sdus = refl
those_push (x ∷ ks) k sdus = ap (λ l. slice_index_or sdus x [] ∷ l) (those_push ks k sdus)

-- SDUs behind them are none of them
pub those_more : (low : ℕ) (ks : List ℕ) (sdus g : List (List ℕ)) → AreBetween low ks (length sdus)
    → those ks (sdus ++ g) ≡ those ks sdus
those_more low [] sdus g h = refl
those_more low (k ∷ ks) sdus g h =
    let within : k < length sdus = omega (arith, between_end (k + 1) ks (length sdus) h.1) in
    ap (λ x. x ∷ those ks (sdus ++ g)) (index_more sdus g k within)
    ∙ ap (λ l. slice_index_or sdus k [] ∷ l) (those_more (k + 1) ks sdus g h.1)

-- ---- they are some of the items, in their order

drop_one : (sdus : List (List ℕ)) (k : ℕ) → k < length sdus → drop k sdus ≡ slice_index_or sdus k [] ∷ drop (suc k) sdus
drop_one [] k lt = absurd (omega (arith, lt))
drop_one (x ∷ sdus) zero lt = refl
drop_one (x ∷ sdus) (suc k) lt = drop_one sdus k (omega (arith, lt))

from_low : (n low : ℕ) (ks : List ℕ) (sdus : List (List ℕ)) → low + n ≡ length sdus → AreBetween low ks (length sdus)
    → IsSubsequence (those ks sdus) (drop low sdus)
from_low n low [] sdus e h = tt
from_low zero low (k ∷ ks) sdus e h = absurd (omega (arith, e, h.0, between_end (k + 1) ks (length sdus) h.1))
from_low (suc n) low (k ∷ ks) sdus e h =
    let next : suc low ≡ low + 1 = omega arith in
    subst (IsSubsequence (those (k ∷ ks) sdus)) (sym (drop_one sdus low (omega (arith, e))))
    (⊎_elim
    (λ (q : k ≡ low).
    let later : AreBetween (suc low) ks (length sdus) =
    subst (λ m. AreBetween m ks (length sdus)) (omega (arith, q)) h.1 in
    inl (ap (λ m. slice_index_or sdus m []) q, from_low n (suc low) ks sdus (omega (arith, e)) later))
    (λ (q : k ≢ low). inr (from_low n (suc low) (k ∷ ks) sdus (omega (arith, e)) (omega (arith, q, h.0), h.1)))
    (cases_eq k low))

pub those_some : (ks : List ℕ) (sdus : List (List ℕ)) → AreBetween 0 ks (length sdus)
    → IsSubsequence (those ks sdus) sdus
those_some ks sdus h = from_low (length sdus) 0 ks sdus (omega arith) h
