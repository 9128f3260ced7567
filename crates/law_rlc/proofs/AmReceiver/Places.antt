-- Which places are held, after cells are laid.
use Rattle.std.proofs.Common.{◌≡◌, ◌<◌, ◌≤◌, inl, inr, ℕ, suc, zero, ◌+◌, ◌-◌, Bool, true, ◌||◌, ◌&&◌, List, [], ◌∷◌}
use Rattle.std.proofs.Common.{◌++◌, length, take, map, replicate, Option, Some, None, is_some, slice_get, refl, ap, sym}
use Rattle.std.proofs.Common.{◌∙◌, arith, get_or, nat_le, nat_lt, max, length-append}
use Rattle.std.proofs.lemmas.Bool.Decides.{nat_tests}
use Rattle.std.proofs.lemmas.Bool.{cases_lt, and_parts, and_from, leb-true, le-leb, lt-leb, lt-ltb, le-ltb}
use Rattle.std.proofs.lemmas.List.{get_or-replicate, get_or_past}
use Rattle.std.proofs.Math.ListN.{length-replicate}
use Rattle.std.specs.List.{list_all}
use Rattle.rlc_am_rx_window.specs.Cells.{Cell, first_of, over, placed, laid, holds}

-- a cell is held at a place
abbrev pub there : List (Option Cell) → ℕ → Bool
there cells i = is_some (get_or cells i None)

-- more of the default changes nothing
pub get_or-padded : {X : Type 0} (xs : List X) (n i : ℕ) (d : X) → get_or (xs ++ replicate n d) i d ≡ get_or xs i d
get_or-padded [] n i d =
    elim (cases_lt i n) [
      | inl below ↦ get_or-replicate n i d d below
      | inr past ↦ get_or_past (replicate n d) i d
          (omega (arith, length-replicate n d))
    ]
get_or-padded (x ∷ xs) n zero d = refl
get_or-padded (x ∷ xs) n (suc i) d = get_or-padded xs n i d

length_over : (cs ns : List (Option Cell)) → length (over cs ns) ≡ max (length cs) (length ns)
length_over [] ns = omega arith
length_over (c ∷ cs) [] = omega arith
length_over (c ∷ cs) (n ∷ ns) = omega (arith, length_over cs ns)

length_new : (xs : List Cell) → length (map (λ c. Some c) xs) ≡ length xs
length_new [] = refl
length_new (x ∷ xs) = ap suc (length_new xs)

pub length_laid : (cs : List (Option Cell)) (so : ℕ) (new : List Cell)
    → length (laid cs so new) ≡ max (length cs) (so + length new)
length_laid cs so new =
    omega (
      arith,
      length_over cs (placed so new),
      length-append (replicate {A = Option Cell} so None) (map (λ c. Some c) new),
      length-replicate {A = Option Cell} so None,
      length_new new,
    )

pub over_at : (cs ns : List (Option Cell)) (i : ℕ)
    → get_or (over cs ns) i None ≡ first_of (get_or cs i None) (get_or ns i None)
over_at [] ns i = refl
over_at (c ∷ cs) [] i = sym (none_last (get_or (c ∷ cs) i None))
  where
    none_last : (x : Option Cell) → first_of x None ≡ x
    none_last None = refl
    none_last (Some x) = refl
over_at (c ∷ cs) (n ∷ ns) zero = refl
over_at (c ∷ cs) (n ∷ ns) (suc i) = over_at cs ns i

some_at : (new : List Cell) (j : ℕ) → get_or (map (λ c. Some c) new) j None ≡ slice_get new j
some_at [] j = refl
some_at (c ∷ new) zero = refl
some_at (c ∷ new) (suc j) = some_at new j

pub placed_behind : (so : ℕ) (new : List Cell) (i : ℕ) → so ≤ i → get_or (placed so new) i None ≡ slice_get new (i - so)
placed_behind zero new i h = let e : i - 0 ≡ i = omega arith in rw e (some_at new i)
placed_behind (suc so) new zero h = absurd (omega (arith, h))
placed_behind (suc so) new (suc i) h = let e : suc i - suc so ≡ i - so = omega arith in
    rw e (placed_behind so new i (omega (arith, h)))

pub placed_before : (so : ℕ) (new : List Cell) (i : ℕ) → i < so → get_or (placed so new) i None ≡ None
placed_before zero new i h = absurd (omega (arith, h))
placed_before (suc so) new zero h = refl
placed_before (suc so) new (suc i) h = placed_before so new i (omega (arith, h))

some_within : (new : List Cell) (j : ℕ) → is_some (slice_get new j) ≡ nat_lt j (length new)
some_within [] j = sym (le-ltb j 0 (omega arith))
some_within (c ∷ new) zero = sym (lt-ltb 0 (suc (length new)) (omega arith))
some_within (c ∷ new) (suc j) = some_within new j ∙ grind (arith, nat_tests)

-- a place is held where it was, or where the new cells lie
pub laid_there : (cells : List (Option Cell)) (so : ℕ) (new : List Cell) (i : ℕ)
    → there (laid cells so new) i ≡ ((nat_le so i && nat_lt i (so + length new)) || there cells i)
laid_there cells so new i =
    ap is_some (over_at cells (placed so new) i) ∙ elim (cases_lt i so) [
      | inl before ↦ rw (placed_before so new i before, lt-leb so i before) (first_is (get_or cells i None))
      | inr from ↦
          let tests : nat_lt (i - so) (length new) ≡ nat_lt i (so + length new) = grind (arith, nat_tests, from) in
          rw (placed_behind so new i from, le-leb so i from) (either (get_or cells i None) (slice_get new (i - so))
          ∙ ap (λ (b : Bool). b || is_some (get_or cells i None)) (some_within new (i - so) ∙ tests))
    ]
  where
    first_is : (x : Option Cell) → is_some (first_of x None) ≡ is_some x
    first_is None = refl
    first_is (Some c) = refl

    either : (x y : Option Cell) → is_some (first_of x y) ≡ (is_some y || is_some x)
    either None None = refl
    either None (Some c) = refl
    either (Some c) None = refl
    either (Some c) (Some d) = refl

all-there : (cells : List (Option Cell)) (n i : ℕ) → list_all is_some (take n cells) ≡ true → i < n → i < length cells
    → there cells i ≡ true
all-there [] n i h below within = absurd (omega arith)
all-there (c ∷ cs) zero i h below within = absurd (omega arith)
all-there (c ∷ cs) (suc n) zero h below within = grind arith
all-there (c ∷ cs) (suc n) (suc i) h below within = all-there cs n i (grind arith) (omega arith) (omega arith)

there-all : (cells : List (Option Cell)) (n : ℕ) → ((i : ℕ) → i < n → there cells i ≡ true)
    → list_all is_some (take n cells) ≡ true
there-all [] zero h = refl
there-all [] (suc n) h = refl
there-all (c ∷ cs) zero h = refl
there-all (c ∷ cs) (suc n) h =
    let first : is_some c ≡ true = h 0 (omega arith) in
    let rest : list_all is_some (take n cs) ≡ true = there-all cs n (λ i below. h (suc i) (omega arith)) in
    grind arith

there-within : (cells : List (Option Cell)) (i : ℕ) → there cells i ≡ true → i < length cells
there-within [] i h = cc
there-within (c ∷ cs) zero h = omega arith
there-within (c ∷ cs) (suc i) h = omega (arith, there-within cs i h)

pub holds-each : (cells : List (Option Cell)) (size : ℕ) → holds cells 0 size ≡ true → (i : ℕ) → i < size
    → there cells i ≡ true
holds-each cells size h i below =
    let parts = and_parts (nat_le (0 + size) (length cells)) (list_all is_some (take (0 + size - 0) cells)) h in
    all-there cells (0 + size - 0) i parts.1 (omega arith) (omega (arith, leb-true (0 + size) (length cells) parts.0))

pub each-holds : (cells : List (Option Cell)) (size : ℕ) → ((i : ℕ) → i < size → there cells i ≡ true)
    → holds cells 0 size ≡ true
each-holds cells size h =
    and_from (nat_le (0 + size) (length cells)) (list_all is_some (take (0 + size - 0) cells))
    (le-leb (0 + size) (length cells) (within cells size h))
    (there-all cells (0 + size - 0) (λ i below. h i (omega arith)))
  where
    within : (cells : List (Option Cell)) (size : ℕ) → ((i : ℕ) → i < size → there cells i ≡ true)
        → 0 + size ≤ length cells
    within cells zero h = omega arith
    within cells (suc n) h = omega (arith, there-within cells n (h n (omega arith)))
