-- Channels in their order.
use Rattle.std.proofs.Common.{◌≡◌, ℕ, zero, suc, ◌+◌, ◌<◌, ◌≤◌, List, [], ◌∷◌, ◌++◌, length, take, drop}
use Rattle.std.proofs.Common.{Option, None, slice_set, slice_index_or, refl, ap, ◌∙◌, arith, append-nil}
use Rattle.std.specs.Prelude.{option_map}
use Rattle.journal_delivered.specs.DeliveryChecking.{AwaitedSdus, with_end, all_ended}

drop_past : (xs : List (Option AwaitedSdus)) (at : ℕ) → length xs ≤ at → drop at xs ≡ []
drop_past [] zero h = refl
drop_past [] (suc at) h = refl
drop_past (x ∷ xs) zero h = absurd (omega (arith, h))
drop_past (x ∷ xs) (suc at) h = drop_past xs at (omega (arith, h))

take_past : (xs : List (Option AwaitedSdus)) (at : ℕ) → length xs ≤ at → take at xs ≡ xs
take_past [] zero h = refl
take_past [] (suc at) h = refl
take_past (x ∷ xs) zero h = absurd (omega (arith, h))
take_past (x ∷ xs) (suc at) h = ap (λ (ys : List (Option AwaitedSdus)). x ∷ ys) (take_past xs at (omega (arith, h)))

abbrev pub ended_from : (ℕ → ℕ) → ℕ → List (Option AwaitedSdus) → List (Option AwaitedSdus)
ended_from came at xs = take at xs ++ all_ended came at (drop at xs)

end_at : (came : ℕ → ℕ) (xs : List (Option AwaitedSdus)) (at n : ℕ) → at < length xs
    → take (suc at) (slice_set xs at (option_map (with_end (came n)) (slice_index_or xs at None)))
    ++ all_ended came (n + 1)
    (drop (suc at) (slice_set xs at (option_map (with_end (came n)) (slice_index_or xs at None))))
    ≡ take at xs ++ all_ended came n (drop at xs)
end_at came [] at n h = absurd (omega (arith, h))
end_at came (x ∷ xs) zero n h = refl
end_at came (x ∷ xs) (suc at) n h =
    ap (λ (ys : List (Option AwaitedSdus)). x ∷ ys) (end_at came xs at n (omega (arith, h)))

pub ends_next : (came : ℕ → ℕ) (xs ys : List (Option AwaitedSdus)) (at : ℕ) → at < length xs
    → ys ≡ slice_set xs at (option_map (with_end (came at)) (slice_index_or xs at None))
    → ended_from came (at + 1) ys ≡ ended_from came at xs
ends_next came xs ys at h is =
    let next : at + 1 ≡ suc at = omega arith in
    ap (λ (n : ℕ). take n ys ++ all_ended came (at + 1) (drop n ys)) next
    ∙ ap (λ (zs : List (Option AwaitedSdus)). take (suc at) zs ++ all_ended came (at + 1) (drop (suc at) zs)) is
    ∙ end_at came xs at at h

pub ends_past : (came : ℕ → ℕ) (xs : List (Option AwaitedSdus)) (at : ℕ) → length xs ≤ at
    → ended_from came at xs ≡ xs
ends_past came xs at h =
    ap (λ (zs : List (Option AwaitedSdus)). zs ++ all_ended came at (drop at xs)) (take_past xs at h)
    ∙ ap (λ (zs : List (Option AwaitedSdus)). xs ++ all_ended came at zs) (drop_past xs at h)
    ∙ append-nil xs

pub ruleset ends = (ends_next, ends_past)
