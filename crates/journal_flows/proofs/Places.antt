-- Tables by place.
use Rattle.std.proofs.Common.{◌≡◌, ℕ, zero, suc, ◌+◌, ◌<◌, ◌≤◌, List, [], ◌∷◌, ◌++◌, length, map, take, drop}
use Rattle.std.proofs.Common.{slice_set, slice_index_or, refl, ap, ◌∙◌, arith, append-nil}

pub drop_past : {A : Type 0} (xs : List A) (at : ℕ) → length xs ≤ at → drop at xs ≡ []
drop_past [] zero h = refl
drop_past [] (suc at) h = refl
drop_past (x ∷ xs) zero h = absurd (omega (arith, h))
drop_past (x ∷ xs) (suc at) h = drop_past xs at (omega (arith, h))

take_past : {A : Type 0} (xs : List A) (at : ℕ) → length xs ≤ at → take at xs ≡ xs
take_past [] zero h = refl
take_past [] (suc at) h = refl
take_past (x ∷ xs) zero h = absurd (omega (arith, h))
take_past (x ∷ xs) (suc at) h = ap (λ (ys : List _). x ∷ ys) (take_past xs at (omega (arith, h)))

-- ---- each item changes, one behind the other

abbrev pub changed_from : {A : Type 0} → (A → A) → ℕ → List A → List A
changed_from f at xs = take at xs ++ map f (drop at xs)

change_at : {A : Type 0} (f : A → A) (d : A) (xs : List A) (at : ℕ) → at < length xs
    → take (suc at) (slice_set xs at (f (slice_index_or xs at d)))
    ++ map f (drop (suc at) (slice_set xs at (f (slice_index_or xs at d))))
    ≡ take at xs ++ map f (drop at xs)
change_at f d [] at h = absurd (omega (arith, h))
change_at f d (x ∷ xs) zero h = refl
change_at f d (x ∷ xs) (suc at) h = ap (λ (ys : List _). x ∷ ys) (change_at f d xs at (omega (arith, h)))

pub changes : {A : Type 0} (f : A → A) (d : A) (xs ys : List A) (at : ℕ) → at < length xs
    → ys ≡ slice_set xs at (f (slice_index_or xs at d)) → changed_from f (at + 1) ys ≡ changed_from f at xs
changes f d xs ys at h is =
    let next : at + 1 ≡ suc at = omega arith in
    ap (λ (n : ℕ). take n ys ++ map f (drop n ys)) next
    ∙ ap (λ (zs : List _). take (suc at) zs ++ map f (drop (suc at) zs)) is ∙ change_at f d xs at h

pub changed_all : {A : Type 0} (f : A → A) (xs : List A) (at : ℕ) → length xs ≤ at → changed_from f at xs ≡ xs
changed_all f xs at h =
    ap (λ (zs : List _). zs ++ map f (drop at xs)) (take_past xs at h)
    ∙ ap (λ (zs : List _). xs ++ map f zs) (drop_past xs at h) ∙ append-nil xs

pub ruleset ends = (changes, changed_all)
