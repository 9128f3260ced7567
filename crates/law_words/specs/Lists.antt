-- Words about lists that promises and laws share (docs/laws/JOURNAL.md).
use Rattle.std.specs.Prelude.{◌≡◌, ℕ, List, ◌++◌, ◌⊎◌, [], ◌∷◌, map, slice_index_or}
use Rattle.std.specs.List.{AllByRecursion}

-- one list is the front of another
pub record AreFirstSdus (front all : List (List ℕ)) : Type 0 where
  pub rest : List (List ℕ)
  pub is : all ≡ front ++ rest

-- the first list is the second with some items left out
abbrev pub IsSubsequence : {A : Type 0} → List A → List A → Type 0
IsSubsequence [] xs = Unit {0}
IsSubsequence (y ∷ ys) [] = ⊥
IsSubsequence (y ∷ ys) (x ∷ xs) = ((y ≡ x) × IsSubsequence ys xs) ⊎ IsSubsequence (y ∷ ys) xs

-- the SDUs at some places
abbrev pub those : List ℕ → List (List ℕ) → List (List ℕ)
those places sdus = map (λ place. slice_index_or sdus place []) places

-- ---- the keys of lives

-- no two are the same
abbrev pub AreDistinct : List (List ℕ) → Type 0
AreDistinct [] = Unit {0}
AreDistinct (key ∷ keys) = AllByRecursion (λ other. key ≡ other → ⊥) keys × AreDistinct keys
