-- The tables hold what the definitions say, by a test of each place that computes.
use Rattle.std.proofs.Common.{◌≡◌, ◌<◌, ℕ, zero, suc, ◌+◌, ◌∙◌, Bool, true, ◌&&◌, eqb, List, [], ◌∷◌, slice_index, refl}
use Rattle.std.proofs.Common.{ap, arith}
use Rattle.std.proofs.lemmas.Bool.Decides.{Decides-below_and, Decides-eqb}
use Rattle.std.proofs.lemmas.Slice.Eq.{bytes_eq-Decides}
use Rattle.std.specs.Str.{bytes_eq}
use Rattle.eps_sec.specs.declared.tables.TheConstants.{S_BOX, FROM_ROWS}
use Rattle.eps_sec.specs.Field.{times, first_inverse, inverse, sub_byte}
use Rattle.eps_sec.specs.Words.{column}

abbrev same_below : ℕ → Bool
same_below zero = true
same_below (suc n) = eqb (slice_index S_BOX n) (sub_byte n) && same_below n

computed : same_below 256 ≡ true
unfolding times first_inverse inverse sub_byte
computed = refl

pub s_box_is : (a : ℕ) → a < 256 → slice_index S_BOX a ≡ sub_byte a
s_box_is a lt =
    let here = Decides-below_and (λ k. eqb (slice_index S_BOX k) (sub_byte k)) (λ k. slice_index S_BOX k ≡ sub_byte k)
    same_below (λ k. Decides-eqb (slice_index S_BOX k) (sub_byte k)) refl (λ _. refl) 256 in
    here.0 computed a lt

-- what an octet of row r whose value by the S-box is s adds to its column
abbrev pub of_row_0 : ℕ → List ℕ
of_row_0 s = times 2 s ∷ s ∷ s ∷ times 3 s ∷ []

abbrev pub of_row_1 : ℕ → List ℕ
of_row_1 s = times 3 s ∷ times 2 s ∷ s ∷ s ∷ []

abbrev pub of_row_2 : ℕ → List ℕ
of_row_2 s = s ∷ times 3 s ∷ times 2 s ∷ s ∷ []

abbrev pub of_row_3 : ℕ → List ℕ
of_row_3 s = s ∷ s ∷ times 3 s ∷ times 2 s ∷ []

-- whether the first n words of a row are so, where the row begins at a place of the table
abbrev are_below : ℕ → (ℕ → List ℕ) → ℕ → Bool
are_below begin of zero = true
are_below begin of (suc n) = bytes_eq (column (slice_index FROM_ROWS (begin + n))) (of (slice_index S_BOX n))
    && are_below begin of n

are_so : (begin : ℕ) (of : ℕ → List ℕ) → are_below begin of 256 ≡ true → (a : ℕ) → a < 256
    → column (slice_index FROM_ROWS (begin + a)) ≡ of (sub_byte a)
are_so begin of computed a lt =
    let here =
    Decides-below_and (λ k. bytes_eq (column (slice_index FROM_ROWS (begin + k))) (of (slice_index S_BOX k)))
    (λ k. column (slice_index FROM_ROWS (begin + k)) ≡ of (slice_index S_BOX k)) (are_below begin of)
    (λ k. bytes_eq-Decides (column (slice_index FROM_ROWS (begin + k))) (of (slice_index S_BOX k))) refl
    (λ _. refl) 256 in
    here.0 computed a lt ∙ ap of (s_box_is a lt)

row_0_computed : are_below 0 of_row_0 256 ≡ true
unfolding times column
row_0_computed = refl

row_1_computed : are_below 256 of_row_1 256 ≡ true
unfolding times column
row_1_computed = refl

row_2_computed : are_below 512 of_row_2 256 ≡ true
unfolding times column
row_2_computed = refl

row_3_computed : are_below 768 of_row_3 256 ≡ true
unfolding times column
row_3_computed = refl

pub row_0_is : (a : ℕ) → a < 256 → column (slice_index FROM_ROWS a) ≡ of_row_0 (sub_byte a)
row_0_is a lt =
    let none : a ≡ 0 + a = omega arith in
    ap (λ (n : ℕ). column (slice_index FROM_ROWS n)) none ∙ are_so 0 of_row_0 row_0_computed a lt

pub row_1_is : (a : ℕ) → a < 256 → column (slice_index FROM_ROWS (256 + a)) ≡ of_row_1 (sub_byte a)
row_1_is = are_so 256 of_row_1 row_1_computed

pub row_2_is : (a : ℕ) → a < 256 → column (slice_index FROM_ROWS (512 + a)) ≡ of_row_2 (sub_byte a)
row_2_is = are_so 512 of_row_2 row_2_computed

pub row_3_is : (a : ℕ) → a < 256 → column (slice_index FROM_ROWS (768 + a)) ≡ of_row_3 (sub_byte a)
row_3_is = are_so 768 of_row_3 row_3_computed
