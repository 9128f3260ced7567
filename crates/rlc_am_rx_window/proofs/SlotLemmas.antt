-- A piece beside what is held.
use Rattle.std.proofs.Common.{◌≡◌, ℕ, ◌+◌, Bool, true, false, not, ◌||◌, List, [], ◌∷◌, ◌++◌, length, map, Option, Some}
use Rattle.std.proofs.Common.{refl, sym, ◌∙◌, arith}
use Rattle.std.proofs.lemmas.List.{append-nil}
use Rattle.rlc_am_rx_window.specs.Cells.{Cell, denies, edge_behind, ends_otherwise}
use Rattle.rlc_am_rx_window.specs.Piece.{element_cells, data_cells, is_end}
use Rattle.rlc_am_rx_window.proofs.CellLemmas.{length_element, somes}
use Rattle.rlc_am_rx_window.proofs.LayLemmas.{laid_end}
use Rattle.rlc_am_rx_window.proofs.PieceLemmas.{length_data}

-- ---- boundaries

pub otherwise_append : (cs : List (Option Cell)) (at : ℕ) (xs ys : List Cell)
    → ends_otherwise cs at (xs ++ ys) ≡ (ends_otherwise cs at xs || ends_otherwise cs (at + length xs) ys)
otherwise_append cs at [] ys = let e : at + length {A = Cell} [] ≡ at = omega arith in rw e refl
otherwise_append cs at (x ∷ xs) ys =
    let next : at + length (x ∷ xs) ≡ at + 1 + length xs = omega arith in
    rw (otherwise_append cs (at + 1) xs ys, next)
    (sym (or_assoc (denies (edge_behind cs at) x.ends) (ends_otherwise cs (at + 1) xs)
    (ends_otherwise cs (at + 1 + length xs) ys)))
  where
    or_assoc : (a b c : Bool) → ((a || b) || c) ≡ (a || (b || c))
    or_assoc true b c = refl
    or_assoc false b c = refl

-- how an element begins doesn't matter there
element_otherwise : (cs : List (Option Cell)) (at : ℕ) (b e : Bool) (os : List ℕ)
    → ends_otherwise cs at (element_cells b e os) ≡ ends_otherwise cs at (element_cells false e os)
element_otherwise cs at b e [] = refl
element_otherwise cs at b e (o ∷ []) = refl
element_otherwise cs at b e (o ∷ p ∷ os) = refl

-- one element, and then the others
pub data_step : (cs : List (Option Cell)) (at : ℕ) (b e : Bool) (x : List ℕ) (es : List (List ℕ))
    → ends_otherwise cs at (data_cells b e (x ∷ es))
    ≡ (ends_otherwise cs at (element_cells false (not (is_end es) || e) x)
    || ends_otherwise cs (at + length x) (data_cells true e es))
data_step cs at b e x [] = element_otherwise cs at b e x
    ∙ sym (or_false (ends_otherwise cs at (element_cells false e x)))
  where
    or_false : (a : Bool) → (a || false) ≡ a
    or_false true = refl
    or_false false = refl
data_step cs at b e x (y ∷ es) =
    otherwise_append cs at (element_cells b true x) (data_cells true e (y ∷ es))
    ∙ rw (element_otherwise cs at b true x, length_element b true x) refl

pub data_any : (cs : List (Option Cell)) (at : ℕ) (b c e : Bool) (es : List (List ℕ))
    → ends_otherwise cs at (data_cells b e es) ≡ ends_otherwise cs at (data_cells c e es)
data_any cs at b c e [] = refl
data_any cs at b c e (x ∷ es) = data_step cs at b e x es ∙ sym (data_step cs at c e x es)

pub ruleset data_otherwise = (data_step, data_any, length_data)

-- ---- laying

-- one element, and then the others
pub data_parts : (b e : Bool) (x : List ℕ) (es : List (List ℕ))
    → map (λ c. Some c) (element_cells b (not (is_end es) || e) x) ++ map (λ c. Some c) (data_cells true e es)
    ≡ map (λ c. Some c) (data_cells b e (x ∷ es))
data_parts b e x [] = append-nil (map (λ c. Some c) (element_cells b e x))
data_parts b e x (y ∷ es) = sym (somes (element_cells b true x) (data_cells true e (y ∷ es)))

pub ruleset laying = (data_parts, laid_end, length_data)
