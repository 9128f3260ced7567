use Rattle.std.proofs.Common.{◌≡◌, ℕ, ◌+◌, ◌-◌, ◌≤◌, List, ◌++◌, length, take, drop, sym, ◌∙◌, ap, arith, refl}
use Rattle.std.proofs.Common.{slice_range, length-drop}
use Rattle.std.proofs.Math.Seq.{take-add}
use lib.Seq.{paste}
use Rattle.std.proofs.lemmas.Grind.{common_steps}
use Rattle.std.proofs.lemmas.List.Edits.{take-paste}
use Rattle.std.proofs.lemmas.List.{take-append-drop, drop-drop, take_at, drop-take, take-take}

-- what is left is the part given, and what is left then
pub drop-given : (xs front later : List ℕ) (at n : ℕ) → front ≡ take n (drop at xs) → length front ≡ n
    → drop at xs ≡ take n (front ++ later) ++ drop (at + n) xs
drop-given xs front later at n same len =
    rw (take_at front later n len, same, ← (drop-drop n at xs)) (sym (take-append-drop n (drop at xs)))

-- the front of a range
pub range-front : (xs : List ℕ) (s e n : ℕ) → s + n ≤ e → slice_range xs s (s + n) ≡ take n (slice_range xs s e)
range-front xs s e n le =
    let short : s + n - s ≡ n = omega arith in
    let inner : n ≤ e - s = omega arith in
    rw (short, take-take n (e - s) (drop s xs) inner) refl

-- the back of a range
pub range-back : (xs : List ℕ) (s e n : ℕ) → s + n ≤ e → slice_range xs (s + n) e ≡ drop n (slice_range xs s e)
range-back xs s e n le =
    let long : e - s ≡ n + (e - (s + n)) = omega arith in
    rw (long, drop-take n (e - (s + n)) (drop s xs), drop-drop n s xs) refl

-- what is kept once more was read behind it
range-behind : (xs bs : List ℕ) (k n : ℕ) → take k bs ≡ xs → take (k + n - 0) bs ≡ xs ++ take (k + n - k) (drop k bs)
range-behind xs bs k n front =
    let whole : k + n - 0 ≡ k + n = omega arith in
    let short : k + n - k ≡ n = omega arith in
    rw (whole, short, take-add k n bs, front) refl

pub range-more : (xs bs : List ℕ) (s e n : ℕ) → s ≤ e → e ≤ length xs
    → take (e - s) bs ≡ take (e - s) (paste xs 0 (drop s xs) (e - s))
    → slice_range bs 0 (e - s + n) ≡ slice_range xs s e ++ slice_range bs (e - s) (e - s + n)
range-more xs bs s e n le inside same =
    let fits : e - s ≤ length (drop s xs) = omega (arith, length-drop s xs) in
    let zero : e - s ≡ 0 + (e - s) = omega arith in
    let moved : take (e - s) (paste xs 0 (drop s xs) (e - s)) ≡ take (e - s) (drop s xs) =
    ap (λ (k : ℕ). take k (paste xs 0 (drop s xs) (e - s))) zero
    ∙ take-paste xs 0 (drop s xs) (e - s) (omega arith) fits in
    range-behind _ bs (e - s) n (same ∙ moved)

pub length-range : (xs : List ℕ) (k n : ℕ) → k + n ≤ length xs → length (slice_range xs k (k + n)) ≡ n
length-range xs k n inside = grind (arith, common_steps)

pub length-part : (xs : List ℕ) (s e : ℕ) → e ≤ length xs → length (slice_range xs s e) ≡ e - s
length-part xs s e inside = grind (arith, common_steps)
