-- The SDUs that have arrived of a flow, by the places of the stream that have come.
use Rattle.std.proofs.Common.{◌≡◌, ◌<◌, ◌≤◌, inl, inr, ℕ, zero, suc, ◌+◌, ◌-◌, Bool, true, false, ◌&&◌, List, [], ◌∷◌}
use Rattle.std.proofs.Common.{length, nat_lt, slice_index, refl, ap, sym, ◌∙◌, arith}
use Rattle.std.proofs.lemmas.Bool.{cases_lt, cases_eq, and_parts, and_from, lt-ltb, ltb-true}
use Rattle.journal_account.specs.Arrived.{all_below, all_between}
use Rattle.journal_account.specs.Stream.{place_of, end_of_all, came_along}
use Rattle.journal_account.proofs.Complete.{below_all, below_each, between_all, between_each}
use Rattle.journal_account.proofs.Wholes.{within, behind, iff}
use Rattle.law_words.specs.Stretches.{all_from}
use Rattle.law_words.specs.Stretches as words
use Rattle.law_given.proofs.ConfirmingSizes.{size_at}

-- ---- sizes one behind the other

pub same_place : (sizes : List ℕ) (k : ℕ) → words.place_of sizes k ≡ place_of sizes k
same_place [] k = refl
same_place (s ∷ sizes) zero = refl
same_place (s ∷ sizes) (suc k) = ap (λ (n : ℕ). s + n) (same_place sizes k)

pub index_is : (sizes : List ℕ) (k : ℕ) → slice_index sizes k ≡ size_at sizes k
index_is [] k = refl
index_is (s ∷ sizes) zero = refl
index_is (s ∷ sizes) (suc k) = index_is sizes k

place_low : (sizes : List ℕ) (j k : ℕ) → j ≤ k → place_of sizes j ≤ place_of sizes k
place_low [] j k le = omega arith
place_low (s ∷ sizes) zero k le = omega arith
place_low (s ∷ sizes) (suc j) zero le = absurd (omega (arith, le))
place_low (s ∷ sizes) (suc j) (suc k) le = let rest = place_low sizes j k (omega (arith, le)) in omega (arith, rest)

place_first : (sizes : List ℕ) → place_of sizes 0 ≡ 0
place_first [] = refl
place_first (s ∷ sizes) = refl

-- ---- which places have come, number by number

pub along_is : (at : ℕ → Bool) (came : ℕ → ℕ → Bool) (sizes : List ℕ) (q n : ℕ)
    → ((j i : ℕ) → j < length sizes → i < size_at sizes j → at (q + place_of sizes j + i) ≡ came (n + j) i)
    → ((p : ℕ) → q + end_of_all sizes ≤ p → at p ≡ false) → (p : ℕ) → at (q + p) ≡ came_along came sizes n p
along_is at came [] q n here past p = past (q + p) (omega arith)
along_is at came (s ∷ sizes) q n here past p = elim (cases_lt p s) [
  | inl lt ↦
      let place : q + 0 + p ≡ q + p = omega arith in
      let number : n + 0 ≡ n = omega arith in
      ap at (sym place)
      ∙ (here 0 p (omega arith) lt ∙ (ap (λ (m : ℕ). came m p) number ∙ sym (within came s sizes n p lt)))
  | inr le ↦
      let place : q + s + (p - s) ≡ q + p = omega (arith, le) in
      ap at (sym place)
      ∙ (along_is at came sizes (q + s) (n + 1)
      (λ j i lt in'.
      let there : q + (s + place_of sizes j) + i ≡ q + s + place_of sizes j + i = omega arith in
      let number : n + suc j ≡ n + 1 + j = omega arith in
      ap at (sym there) ∙ (here (suc j) i (omega (arith, lt)) in' ∙ ap (λ (m : ℕ). came m i) number))
      (λ r far. past r (omega (arith, far))) (p - s)
      ∙ sym (behind came s sizes n p le))
]

-- ---- all of some places

from_each : (p : ℕ → Bool) (i n j : ℕ) → all_from p i n ≡ true → i ≤ j → j < i + n → p j ≡ true
from_each p i zero j e le lt = absurd (omega (arith, le, lt))
from_each p i (suc n) j e le lt =
    let both = and_parts (p i) (all_from p (i + 1) n) e in
    elim (cases_eq i j) [
      | inl same ↦ ap p (sym same) ∙ both.0
      | inr other ↦ from_each p (i + 1) n j both.1 (omega (arith, le, other)) (omega (arith, lt))
    ]

from_all : (p : ℕ → Bool) (i n : ℕ) → ((j : ℕ) → i ≤ j → j < i + n → p j ≡ true) → all_from p i n ≡ true
from_all p i zero h = refl
from_all p i (suc n) h =
    and_from (p i) (all_from p (i + 1) n) (h i (omega arith) (omega arith))
    (from_all p (i + 1) n (λ j le lt. h j (omega (arith, le)) (omega (arith, lt))))

pub from_between : (p r : ℕ → Bool) (i n to : ℕ) → to ≡ i + n → ((j : ℕ) → p j ≡ r j)
    → all_from p i n ≡ all_between r i to
from_between p r i n to e same = iff (all_from p i n) (all_between r i to)
    (λ all. between_all r i to (λ j le lt. sym (same j) ∙ from_each p i n j all le (omega (arith, lt, e))))
    (λ all. from_all p i n (λ j le lt. same j ∙ between_each r i to j all le (omega (arith, lt, e))))

-- ---- so many SDUs have come one behind the other

abbrev pub whole : List ℕ → (ℕ → Bool) → ℕ → Bool
whole sizes came k = nat_lt k (length sizes) && all_between came (place_of sizes k) (place_of sizes (k + 1))

module _ (sizes : List ℕ) (came : ℕ → Bool) where
  wholes_come : (m : ℕ) → ((j : ℕ) → j < m → whole sizes came j ≡ true) → (p : ℕ) → p < place_of sizes m
      → came p ≡ true
  wholes_come zero all p lt = let none = place_first sizes in absurd (omega (arith, none, lt))
  wholes_come (suc m) all p lt = elim (cases_lt p (place_of sizes m)) [
    | inl low ↦ wholes_come m (λ j few. all j (omega (arith, few))) p low
    | inr up ↦
        let both = and_parts (nat_lt m (length sizes))
        (all_between came (place_of sizes m) (place_of sizes (m + 1))) (all m (omega arith)) in
        let next : m + 1 ≡ suc m = omega arith in
        let end' = ap (place_of sizes) next in
        between_each came (place_of sizes m) (place_of sizes (m + 1)) p both.1 up (omega (arith, lt, end'))
  ]

  -- the first `n` are whole, and the one behind them isn't
  pub sequence_is : (n : ℕ) → ((j : ℕ) → j < n → whole sizes came j ≡ true) → whole sizes came n ≡ false → (k : ℕ)
      → (nat_lt k (length sizes) && all_below came (place_of sizes (k + 1))) ≡ nat_lt k n
  sequence_is n first stops k = iff
      (nat_lt k (length sizes) && all_below came (place_of sizes (k + 1))) (nat_lt k n)
      (λ e. elim (cases_lt k n) [
        | inl lt ↦ lt-ltb k n lt
        | inr le ↦
            let both = and_parts (nat_lt k (length sizes)) (all_below came (place_of sizes (k + 1))) e in
            let few = ltb-true k (length sizes) both.0 in
            let low = place_low sizes (n + 1) (k + 1) (omega (arith, le)) in
            let is : whole sizes came n ≡ true = and_from (nat_lt n (length sizes))
            (all_between came (place_of sizes n) (place_of sizes (n + 1)))
            (lt-ltb n (length sizes) (omega (arith, le, few)))
            (between_all came (place_of sizes n) (place_of sizes (n + 1)) (λ i from to.
            below_each came (place_of sizes (k + 1)) i both.1 (omega (arith, to, low)))) in
            let no : true ≡ false = sym is ∙ stops in
            absurd cc
      ])
      (λ e.
      let lt = ltb-true k n e in
      let both = and_parts (nat_lt k (length sizes))
      (all_between came (place_of sizes k) (place_of sizes (k + 1))) (first k lt) in
      let next : suc k ≡ k + 1 = omega arith in
      let end' = ap (place_of sizes) next in
      and_from (nat_lt k (length sizes)) (all_below came (place_of sizes (k + 1))) both.0
      (below_all came (place_of sizes (k + 1)) (λ p in'.
      wholes_come (suc k) (λ j few. first j (omega (arith, few, lt))) p (omega (arith, in', end')))))
