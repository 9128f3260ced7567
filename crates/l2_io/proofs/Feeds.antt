-- Where the first line feed stands.
use Rattle.std.proofs.Common.{◌≡◌, ℕ, ◌+◌, ◌<◌, ◌≤◌, List, [], ◌∷◌, refl, arith, ◌==◌, ap, cond, zero, suc, true, false}
use Rattle.std.proofs.Common.{length, slice_index}
use Rattle.std.proofs.lemmas.Bool.{eqb-true, false_from_ne_true}
use Rattle.l2_io.specs.Feeds.{until_feed, from_feed, IsFeedAt}

-- without a line feed, all of it is before one
pub until_feed_whole : (xs : List ℕ) → from_feed xs ≡ [] → until_feed xs ≡ xs
until_feed_whole [] e = refl
until_feed_whole (x ∷ xs) e =
    elim (x == 10) as (λ b. cond b (x ∷ xs) (from_feed xs) ≡ [] → cond b [] (x ∷ until_feed xs) ≡ x ∷ xs) [
      | true ↦ λ bad. cc
      | false ↦ λ none. ap (λ t. x ∷ t) (until_feed_whole xs none)
    ] e

-- no line feed stands anywhere
pub from_feed_none : (xs : List ℕ) → ((k : ℕ) → 0 ≤ k → k < length xs → (slice_index xs k == 10) ≡ true → ⊥)
    → from_feed xs ≡ []
from_feed_none [] none = refl
from_feed_none (x ∷ xs) none =
    let e : (x == 10) ≡ false = false_from_ne_true (x == 10) (none 0 (omega arith) (omega arith)) in
    rw e (from_feed_none xs (λ k low high. none (suc k) (omega arith) (omega (arith, high))))

-- an octet that isn't a line feed stands before the first one
on_after : (x : ℕ) (xs : List ℕ) → (x == 10) ≡ false → (i : ℕ) → IsFeedAt xs i → IsFeedAt (x ∷ xs) (suc i)
on_after x xs e i at =
    let next : suc i + 1 ≡ suc (i + 1) = omega arith in record {
      inside = omega (arith, at.inside);
      line = rw (e, at.line) refl;
      rest = rw (e, next, at.rest) refl;
    }

-- the first place with a line feed
pub feed_first : (xs : List ℕ) (i : ℕ) → i < length xs
    → ((k : ℕ) → 0 ≤ k → k < i → (slice_index xs k == 10) ≡ true → ⊥) → (slice_index xs i == 10) ≡ true
    → IsFeedAt xs i
feed_first [] i inside none here = absurd (omega (arith, inside))
feed_first (x ∷ xs) zero inside none here =
    record { inside = inside; line = rw here refl; rest = rw here (ap (λ y. y ∷ xs) (eqb-true x 10 here)) }
feed_first (x ∷ xs) (suc i) inside none here =
    let e : (x == 10) ≡ false = false_from_ne_true (x == 10) (none 0 (omega arith) (omega arith)) in
    on_after x xs e i
    (feed_first xs i (omega (arith, inside)) (λ k low high. none (suc k) (omega arith) (omega (arith, high)))
    here)
