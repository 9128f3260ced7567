-- The lines of octets, cut off their front one by one.
use Rattle.std.proofs.Common.{◌≡◌, ◌⊎◌, ◌==◌, ◌++◌, ℕ, List, [], ◌∷◌, refl, ap, cond, true, false, inl, inr, arith}
use Rattle.std.proofs.Common.{if◌then◌else◌, ◌∙◌}
use Rattle.std.proofs.Common.{Bool}
use Rattle.l2_io.specs.Feeds.{until_feed, from_feed}
use Rattle.line_player.specs.Lines.{onto_first, onto_tail, lines_ended, tail_of}

pub from-append : (xs ys more : List ℕ) → from_feed xs ≡ 10 ∷ ys → from_feed (xs ++ more) ≡ 10 ∷ (ys ++ more)
from-append [] ys more e = cc
from-append (x ∷ xs) ys more e =
    elim (x == 10) as (λ b. cond b (x ∷ xs) (from_feed xs) ≡ 10 ∷ ys
    → cond b (x ∷ (xs ++ more)) (from_feed (xs ++ more)) ≡ 10 ∷ (ys ++ more)) [
      | true ↦ λ h. ap (λ zs. zs ++ more) h
      | false ↦ λ h. from-append xs ys more h
    ] e

pub until-append : (xs ys more : List ℕ) → from_feed xs ≡ 10 ∷ ys → until_feed (xs ++ more) ≡ until_feed xs
until-append [] ys more e = cc
until-append (x ∷ xs) ys more e =
    elim (x == 10) as (λ b. cond b (x ∷ xs) (from_feed xs) ≡ 10 ∷ ys
    → cond b [] (x ∷ until_feed (xs ++ more)) ≡ cond b [] (x ∷ until_feed xs)) [
      | true ↦ λ h. refl
      | false ↦ λ h. ap (λ t. x ∷ t) (until-append xs ys more h)
    ] e

pub lines-line : (xs ys : List ℕ) → from_feed xs ≡ 10 ∷ ys → lines_ended xs ≡ until_feed xs ∷ lines_ended ys
lines-line [] ys e = cc
lines-line (x ∷ xs) ys e =
    elim (x == 10) as (λ b. cond b (x ∷ xs) (from_feed xs) ≡ 10 ∷ ys
    → cond b ([] ∷ lines_ended xs) (onto_first x (lines_ended xs)) ≡ cond b [] (x ∷ until_feed xs) ∷ lines_ended ys) [
      | true ↦ λ h. cc
      | false ↦ λ h. rw (lines-line xs ys h) refl
    ] e

pub tail-line : (xs ys : List ℕ) → from_feed xs ≡ 10 ∷ ys → tail_of xs ≡ tail_of ys
tail-line [] ys e = cc
tail-line (x ∷ xs) ys e =
    elim (x == 10) as (λ b. cond b (x ∷ xs) (from_feed xs) ≡ 10 ∷ ys
    → cond b (tail_of xs) (onto_tail x (lines_ended xs) (tail_of xs)) ≡ tail_of ys) [
      | true ↦ λ h. cc
      | false ↦ λ h. rw (lines-line xs ys h) (tail-line xs ys h)
    ] e

pub lines-none : (xs : List ℕ) → from_feed xs ≡ [] → lines_ended xs ≡ []
lines-none [] e = refl
lines-none (x ∷ xs) e =
    elim (x == 10) as (λ b. cond b (x ∷ xs) (from_feed xs) ≡ []
    → cond b ([] ∷ lines_ended xs) (onto_first x (lines_ended xs)) ≡ []) [
      | true ↦ λ h. cc
      | false ↦ λ h. rw (lines-none xs h) refl
    ] e

pub tail-none : (xs : List ℕ) → from_feed xs ≡ [] → tail_of xs ≡ xs
tail-none [] e = refl
tail-none (x ∷ xs) e =
    elim (x == 10) as (λ b. cond b (x ∷ xs) (from_feed xs) ≡ []
    → cond b (tail_of xs) (onto_tail x (lines_ended xs) (tail_of xs)) ≡ x ∷ xs) [
      | true ↦ λ h. cc
      | false ↦ λ h. rw (lines-none xs h, tail-none xs h) refl
    ] e

feed-by : (x : ℕ) (xs : List ℕ) (b : Bool) → (x == 10) ≡ b
    → (from_feed xs ≡ []) ⊎ ((ys : List ℕ) × (from_feed xs ≡ 10 ∷ ys))
    → (cond b (x ∷ xs) (from_feed xs) ≡ []) ⊎ ((ys : List ℕ) × (cond b (x ∷ xs) (from_feed xs) ≡ 10 ∷ ys))
feed-by x xs true e later = let same : x ≡ 10 = grind arith in inr (xs, ap (λ y. y ∷ xs) same)
feed-by x xs false e later = later

pub feed-cases : (xs : List ℕ) → (from_feed xs ≡ []) ⊎ ((ys : List ℕ) × (from_feed xs ≡ 10 ∷ ys))
feed-cases [] = inl refl
feed-cases (x ∷ xs) = feed-by x xs (x == 10) refl (feed-cases xs)

-- ---- a text without a line feed, and a line feed behind it

feed-parts : (x : ℕ) (xs : List ℕ) → until_feed (x ∷ xs) ≡ x ∷ xs → ((x == 10) ≡ false) × (until_feed xs ≡ xs)
feed-parts x xs h =
    elim (x == 10) as (λ b. (if b then [] else x ∷ until_feed xs) ≡ x ∷ xs → (b ≡ false) × (until_feed xs ≡ xs)) [
      | true ↦ λ f. cc
      | false ↦ λ f. (refl, cc)
    ] h

pub from-text : (text rest : List ℕ) → until_feed text ≡ text → from_feed (text ++ 10 ∷ rest) ≡ 10 ∷ rest
from-text [] rest h = refl
from-text (x ∷ xs) rest h = let p = feed-parts x xs h in rw (p.0) (from-text xs rest p.1)

until-text : (text rest : List ℕ) → until_feed text ≡ text → until_feed (text ++ 10 ∷ rest) ≡ text
until-text [] rest h = refl
until-text (x ∷ xs) rest h = let p = feed-parts x xs h in rw (p.0) (ap (λ (t : List ℕ). x ∷ t) (until-text xs rest p.1))

pub lines-text : (text rest : List ℕ) → until_feed text ≡ text
    → lines_ended (text ++ 10 ∷ rest) ≡ text ∷ lines_ended rest
lines-text text rest h = lines-line (text ++ 10 ∷ rest) rest (from-text text rest h)
    ∙ ap (λ (t : List ℕ). t ∷ lines_ended rest) (until-text text rest h)
