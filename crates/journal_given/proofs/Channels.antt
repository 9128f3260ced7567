-- Channels in their order.
use Rattle.std.proofs.Common.{◌≡◌, ℕ, zero, suc, ◌+◌, ◌<◌, ◌≤◌, List, [], ◌∷◌, ◌++◌, length, take, drop}
use Rattle.std.proofs.Common.{slice_set, slice_index_or, refl, ap, ◌∙◌, arith, append-nil}
use Rattle.journal_given.specs.Giving.{each_from}

pub drop_past : {A : Type 0} (xs : List A) (at : ℕ) → length xs ≤ at → drop at xs ≡ []
drop_past [] zero h = refl
drop_past [] (suc at) h = refl
drop_past (x ∷ xs) zero h = absurd (omega (arith, h))
drop_past (x ∷ xs) (suc at) h = drop_past xs at (omega (arith, h))

take_past : {A : Type 0} (xs : List A) (at : ℕ) → length xs ≤ at → take at xs ≡ xs
take_past [] zero h = refl
take_past [] (suc at) h = refl
take_past (x ∷ xs) zero h = absurd (omega (arith, h))
take_past (x ∷ xs) (suc at) h = ap (λ (ys : List _). x ∷ ys) (take_past xs at (omega (arith, h)))

-- those below a place are as they are, and the others change
abbrev pub changed_from : {A : Type 0} → (ℕ → A → A) → ℕ → List A → List A
changed_from f at xs = take at xs ++ each_from f at (drop at xs)

change_at : {A : Type 0} (f : ℕ → A → A) (d : A) (n : ℕ) (xs : List A) (at : ℕ) → at < length xs
    → take (suc at) (slice_set xs at (f n (slice_index_or xs at d)))
    ++ each_from f (n + 1) (drop (suc at) (slice_set xs at (f n (slice_index_or xs at d))))
    ≡ take at xs ++ each_from f n (drop at xs)
change_at f d n [] at h = absurd (omega (arith, h))
change_at f d n (x ∷ xs) zero h = refl
change_at f d n (x ∷ xs) (suc at) h = ap (λ (ys : List _). x ∷ ys) (change_at f d n xs at (omega (arith, h)))

pub changes : {A : Type 0} (f : ℕ → A → A) (d : A) (xs ys : List A) (at : ℕ) → at < length xs
    → ys ≡ slice_set xs at (f at (slice_index_or xs at d)) → changed_from f (at + 1) ys ≡ changed_from f at xs
changes f d xs ys at h is =
    let next : at + 1 ≡ suc at = omega arith in
    ap (λ (n : ℕ). take n ys ++ each_from f (at + 1) (drop n ys)) next
    ∙ ap (λ (zs : List _). take (suc at) zs ++ each_from f (at + 1) (drop (suc at) zs)) is
    ∙ change_at f d at xs at h

pub changed_all : {A : Type 0} (f : ℕ → A → A) (xs : List A) (at : ℕ) → length xs ≤ at → changed_from f at xs ≡ xs
changed_all f xs at h =
    ap (λ (zs : List _). zs ++ each_from f at (drop at xs)) (take_past xs at h)
    ∙ ap (λ (zs : List _). xs ++ each_from f at zs) (drop_past xs at h) ∙ append-nil xs

pub ruleset walks = (changes, changed_all)
