-- The bits of a bitmap, one behind the other.
use Rattle.std.proofs.Common.{◌≡◌, ℕ, zero, suc, ◌+◌, ◌-◌, ◌<◌, ◌≤◌, ◌==◌, Bool, true, false, ◌&&◌, List, [], ◌∷◌}
use Rattle.std.proofs.Common.{length, drop, refl, ap, sym, ◌∙◌, arith, if◌then◌else◌}
use Rattle.std.proofs.Common.{inl, inr}
use Rattle.std.proofs.lemmas.Bool.{cases_eq, eq-eqb, ne_eqb}
use Rattle.pdcp_pdu.specs.Grammar.{bit_of}
use Rattle.journal_given.specs.Supplies.{marked_from, is_same_list, is_at}
use Rattle.journal_given.proofs.Channels.{drop_past}

abbrev rest_is : List ℕ → List ℕ → ℕ → ℕ → ℕ → ℕ → Bool
rest_is bitmap counts first k at n = is_same_list (marked_from bitmap first k n) (drop at counts)

drop_next : (counts : List ℕ) (at : ℕ) → drop (at + 1) counts ≡ drop 1 (drop at counts)
drop_next [] zero = refl
drop_next [] (suc at) = drop_past [] (suc at + 1) (omega arith)
drop_next (x ∷ xs) zero = refl
drop_next (x ∷ xs) (suc at) =
    let next : suc at + 1 ≡ suc (at + 1) = omega arith in
    ap (λ (n : ℕ). drop n (x ∷ xs)) next ∙ drop_next xs at

same_suc : (a b : ℕ) → (a == b) ≡ (suc a == suc b)
same_suc a b = elim (cases_eq a b) [
  | inl is ↦ eq-eqb a b is ∙ sym (eq-eqb (suc a) (suc b) (omega (arith, is)))
  | inr other ↦ ne_eqb a b other ∙ sym (ne_eqb (suc a) (suc b) (λ e. other (omega (arith, e))))
]

length_left : (counts : List ℕ) (at : ℕ) → at ≤ length counts → (length (drop at counts) == 0) ≡ (at == length counts)
length_left [] zero h = refl
length_left [] (suc at) h = absurd (omega (arith, h))
length_left (x ∷ xs) zero h =
    ne_eqb (length (x ∷ xs)) 0 (λ e. omega (arith, e)) ∙ sym (ne_eqb 0 (length (x ∷ xs)) (λ e. omega (arith, e)))
length_left (x ∷ xs) (suc at) h = length_left xs at (omega (arith, h)) ∙ same_suc at (length xs)

there : (counts : List ℕ) (at n : ℕ) → is_at n (drop at counts) ≡ true → at < length counts
there [] zero n e = absurd cc
there [] (suc at) n e = absurd cc
there (x ∷ xs) zero n e = omega arith
there (x ∷ xs) (suc at) n e = omega (arith, there xs at n e)

pub in_place : (counts : List ℕ) (at n : ℕ) → is_at n (drop at counts) ≡ true → at + 1 ≤ length counts
in_place counts at n e = omega (arith, there counts at n e)

left_at : (many k : ℕ) → k < many → many - k ≡ suc (many - (k + 1))
left_at many k h = omega (arith, h)

pub unmarked : (bitmap counts : List ℕ) (first many k at : ℕ) → k < many → bit_of bitmap k ≡ false
    → is_same_list (marked_from bitmap first (k + 1) (many - (k + 1))) (drop at counts)
    ≡ is_same_list (marked_from bitmap first k (many - k)) (drop at counts)
unmarked bitmap counts first many k at h unset =
    sym (ap (λ (n : ℕ). rest_is bitmap counts first k at n) (left_at many k h)
    ∙ ap (λ (b : Bool). is_same_list (if b
    then (first + k) ∷ marked_from bitmap first (k + 1) (many - (k + 1))
    else marked_from bitmap first (k + 1) (many - (k + 1))) (drop at counts)) unset)

marked_so : (bitmap counts : List ℕ) (first many k at : ℕ) → k < many → bit_of bitmap k ≡ true
    → is_same_list (marked_from bitmap first k (many - k)) (drop at counts)
    ≡ (is_at (first + k) (drop at counts)
    && is_same_list (marked_from bitmap first (k + 1) (many - (k + 1))) (drop 1 (drop at counts)))
marked_so bitmap counts first many k at h is =
    ap (λ (n : ℕ). rest_is bitmap counts first k at n) (left_at many k h)
    ∙ ap (λ (b : Bool). is_same_list (if b
    then (first + k) ∷ marked_from bitmap first (k + 1) (many - (k + 1))
    else marked_from bitmap first (k + 1) (many - (k + 1))) (drop at counts)) is

pub marked : (bitmap counts : List ℕ) (first many k at : ℕ) → k < many → bit_of bitmap k ≡ true
    → is_at (first + k) (drop at counts) ≡ true
    → is_same_list (marked_from bitmap first (k + 1) (many - (k + 1))) (drop (at + 1) counts)
    ≡ is_same_list (marked_from bitmap first k (many - k)) (drop at counts)
marked bitmap counts first many k at h is same =
    ap (λ (xs : List ℕ). is_same_list (marked_from bitmap first (k + 1) (many - (k + 1))) xs) (drop_next counts at)
    ∙ sym (marked_so bitmap counts first many k at h is ∙ ap (λ (b : Bool). b
    && is_same_list (marked_from bitmap first (k + 1) (many - (k + 1))) (drop 1 (drop at counts))) same)

pub mismarked : (bitmap counts : List ℕ) (first many k at : ℕ) → k < many → bit_of bitmap k ≡ true
    → is_at (first + k) (drop at counts) ≡ false
    → is_same_list (marked_from bitmap first k (many - k)) (drop at counts) ≡ false
mismarked bitmap counts first many k at h is other =
    marked_so bitmap counts first many k at h is ∙ ap (λ (b : Bool). b
    && is_same_list (marked_from bitmap first (k + 1) (many - (k + 1))) (drop 1 (drop at counts))) other

pub all_marked : (bitmap counts : List ℕ) (first many k at : ℕ) → many ≤ k → at ≤ length counts
    → is_same_list (marked_from bitmap first k (many - k)) (drop at counts) ≡ (at == length counts)
all_marked bitmap counts first many k at h within =
    let none : many - k ≡ 0 = omega (arith, h) in
    ap (λ (n : ℕ). rest_is bitmap counts first k at n) none ∙ length_left counts at within

pub ruleset walks = (in_place, unmarked, marked, mismarked, all_marked)
