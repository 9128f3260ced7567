-- Channels in their order.
use Rattle.std.proofs.Common.{◌≡◌, ℕ, zero, suc, ◌+◌, ◌<◌, ◌≤◌, List, [], ◌∷◌, ◌++◌, length, take, drop, map}
use Rattle.std.proofs.Common.{slice_set, slice_index_or, refl, ap, ◌∙◌, arith, append-nil}
use Rattle.journal_queues.specs.Leaving.{Queue, no_bearer, handed_over}

drop_past : (xs : List Queue) (at : ℕ) → length xs ≤ at → drop at xs ≡ []
drop_past [] zero h = refl
drop_past [] (suc at) h = refl
drop_past (x ∷ xs) zero h = absurd (omega (arith, h))
drop_past (x ∷ xs) (suc at) h = drop_past xs at (omega (arith, h))

take_past : (xs : List Queue) (at : ℕ) → length xs ≤ at → take at xs ≡ xs
take_past [] zero h = refl
take_past [] (suc at) h = refl
take_past (x ∷ xs) zero h = absurd (omega (arith, h))
take_past (x ∷ xs) (suc at) h = ap (λ (ys : List Queue). x ∷ ys) (take_past xs at (omega (arith, h)))

abbrev pub handed_from : ℕ → List Queue → List Queue
handed_from at xs = take at xs ++ map handed_over (drop at xs)

handed_at : (xs : List Queue) (at : ℕ) → at < length xs
    → take (suc at) (slice_set xs at (handed_over (slice_index_or xs at no_bearer)))
    ++ map handed_over (drop (suc at) (slice_set xs at (handed_over (slice_index_or xs at no_bearer))))
    ≡ take at xs ++ map handed_over (drop at xs)
handed_at [] at h = absurd (omega (arith, h))
handed_at (x ∷ xs) zero h = refl
handed_at (x ∷ xs) (suc at) h = ap (λ (ys : List Queue). x ∷ ys) (handed_at xs at (omega (arith, h)))

pub handed_next : (xs ys : List Queue) (at : ℕ) → at < length xs
    → ys ≡ slice_set xs at (handed_over (slice_index_or xs at no_bearer))
    → handed_from (at + 1) ys ≡ handed_from at xs
handed_next xs ys at h is =
    let next : at + 1 ≡ suc at = omega arith in
    ap (λ (n : ℕ). take n ys ++ map handed_over (drop n ys)) next
    ∙ ap (λ (zs : List Queue). take (suc at) zs ++ map handed_over (drop (suc at) zs)) is
    ∙ handed_at xs at h

pub handed_past : (xs : List Queue) (at : ℕ) → length xs ≤ at → handed_from at xs ≡ xs
handed_past xs at h =
    ap (λ (zs : List Queue). zs ++ map handed_over (drop at xs)) (take_past xs at h)
    ∙ ap (λ (zs : List Queue). xs ++ map handed_over zs) (drop_past xs at h)
    ∙ append-nil xs

pub ruleset walks = (handed_next, handed_past)
