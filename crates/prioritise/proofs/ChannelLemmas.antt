-- Channels with LCIDs of their own.
use Rattle.std.proofs.Common.{◌≡◌, ◌<◌, ◌≤◌, ℕ, zero, suc, ◌==◌, Bool, true, false, ◌||◌, List, [], ◌∷◌, length, refl}
use Rattle.std.proofs.Common.{ap, arith, inl, inr}
use Rattle.std.specs.List.{All, AllByRecursion, IsDistinct, insert, list_any}
use Rattle.std.proofs.lemmas.Bool.{or_cases}
use Rattle.std.proofs.lemmas.Bool.Decides.{nat_tests}
use Rattle.std.proofs.lemmas.List.Sorted.{IsPermutation-map, IsPermutation-insert, All-permutation}
use Rattle.std.proofs.lemmas.Map.Keys.{IsDistinct-IsPermutation}
use Rattle.std.proofs.lemmas.Map.Steps.{length-le_from_distinct_below}
use Rattle.l2_types.specs.declared.channel.Channel.{Channel}
use Rattle.prioritise.specs.Channels.{lcids, AreSound, has}

-- neither of two tests holds
pub both_false : (a b : Bool) → (a || b) ≡ false → (a ≡ false) × (b ≡ false)
both_false true b e = absurd cc
both_false false b e = (refl, e)

apart : (x : ℕ) (cs : List Channel) → has x cs ≡ false → AllByRecursion (λ y. (x == y) ≡ false) (lcids cs)
apart x [] e = tt
apart x (c ∷ cs) e = let b = both_false (x == c.lcid) (has x cs) e in (b.0, apart x cs b.1)

pub apart_has : (x : ℕ) (cs : List Channel) → AllByRecursion (λ y. (x == y) ≡ false) (lcids cs) → has x cs ≡ false
apart_has x [] a = refl
apart_has x (c ∷ cs) a = rw (a.0) (apart_has x cs a.1)

distinct_more : (x : ℕ) (cs : List Channel) → has x cs ≡ false → IsDistinct ◌==◌ (lcids cs)
    → IsDistinct ◌==◌ (x ∷ lcids cs)
unfolding IsDistinct
distinct_more x cs e d = (apart x cs e, d)

below : (x : ℕ) (cs : List Channel) → x < 11 → All (λ c. c.lcid < 11) cs → (q : ℕ)
    → list_any (◌==◌ q) (x ∷ lcids cs) ≡ true → q < 11
below x [] lt a q e = elim (or_cases (q == x) false e) [
  | inl here ↦ grind (arith, nat_tests)
  | inr none ↦ absurd cc
]
below x (c ∷ cs) lt a q e = elim (or_cases (q == x) (list_any (◌==◌ q) (c.lcid ∷ lcids cs)) e) [
  | inl here ↦ grind (arith, nat_tests)
  | inr there ↦ below c.lcid cs (a 0 c (omega arith)) (λ k d h. a (suc k) d (omega arith)) q there
]

lcids_length : (cs : List Channel) → length (lcids cs) ≡ length cs
lcids_length [] = refl
lcids_length (c ∷ cs) = ap suc (lcids_length cs)

-- while an LCID isn't taken, there is room for a channel
pub room : (x : ℕ) (cs : List Channel) → AreSound cs → x < 11 → has x cs ≡ false → length cs < 11
room x cs s lt e =
    let most : length (x ∷ lcids cs) ≤ 11 =
    length-le_from_distinct_below (x ∷ lcids cs) 11 (distinct_more x cs e s.distinct) (below x cs lt s.within) in
    omega (arith, lcids_length cs)

flips : (x y : ℕ) → (x == y) ≡ (y == x)
flips x y = grind (arith, nat_tests)

-- a new channel in whatever place
pub sound_more : (c : Channel) (cs : List Channel) (at : ℕ) → AreSound cs → c.lcid < 11 → c.group < 4
    → has c.lcid cs ≡ false → AreSound (insert cs at c)
sound_more c cs at s lt four e = record {
  within = All-permutation (λ d. d.lcid < 11) (c ∷ cs) (insert cs at c) (IsPermutation-insert cs at c)
      (first (λ d. d.lcid < 11) lt s.within);
  groups = All-permutation (λ d. d.group < 4) (c ∷ cs) (insert cs at c) (IsPermutation-insert cs at c)
      (first (λ d. d.group < 4) four s.groups);
  distinct = IsDistinct-IsPermutation ◌==◌ flips (lcids (c ∷ cs)) (lcids (insert cs at c))
      (IsPermutation-map (λ (d : Channel). d.lcid) (c ∷ cs) (insert cs at c) (IsPermutation-insert cs at c))
      (distinct_more c.lcid cs e s.distinct);
}
  where
    first : (Is : Channel → Type 0) → Is c → All Is cs → All Is (c ∷ cs)
    first Is here there zero d h = here
    first Is here there (suc k) d h = there k d (omega arith)

pub sound_none : AreSound []
unfolding IsDistinct
sound_none = record { within = λ k d h. absurd (omega arith); groups = λ k d h. absurd (omega arith); distinct = tt }
