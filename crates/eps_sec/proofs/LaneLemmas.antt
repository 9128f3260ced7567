-- The octets of words as lanes of a vector, each word's lowest octet first.
use Rattle.std.proofs.Common.{◌≡◌, ◌<◌, ℕ, ◌+◌, ◌*◌, ◌/◌, ◌%◌, ◌^◌, ◌∙◌, List, [], ◌∷◌, length, slice_index, get_or}
use Rattle.std.proofs.Common.{refl, ap, arith}
use Rattle.std.proofs.lemmas.Simd.{get_or_narrower}
use Rattle.std.specs.Simd.Lanes.{Each1, number_l, digits_l, pick_l}
use Rattle.eps_sec.specs.Words.{column, state}
use Rattle.eps_sec.proofs.WordLemmas.{four, joined}

abbrev lanes : List ℕ → List ℕ
lanes ws = digits_l 256 16 (number_l 4294967296 ws)

-- the positions of the octets of four words, each word's highest first
abbrev highest_first : List ℕ
highest_first = 3 ∷ 2 ∷ 1 ∷ 0 ∷ 7 ∷ 6 ∷ 5 ∷ 4 ∷ 11 ∷ 10 ∷ 9 ∷ 8 ∷ 15 ∷ 14 ∷ 13 ∷ 12 ∷ []

lane : (ws : List ℕ) (j i : ℕ) → Each1 (λ w. w < 4294967296) ws → j < 4 → i < 4
    → get_or (lanes ws) (4 * j + i) 0 ≡ get_or ws j 0 / 256 ^ i % 256
lane ws j i small low within = get_or_narrower 4294967296 4 256 16 ws j i refl small within (omega (arith, low, within))

-- a word's octets, the highest first
column-of-lanes : (ws : List ℕ) (j : ℕ) → Each1 (λ w. w < 4294967296) ws → j < 4
    → get_or (lanes ws) (4 * j + 3) 0 ∷ get_or (lanes ws) (4 * j + 2) 0 ∷ get_or (lanes ws) (4 * j + 1) 0
    ∷ get_or (lanes ws) (4 * j + 0) 0 ∷ [] ≡ column (slice_index ws j)
unfolding column
column-of-lanes ws j small low =
    four _ _ _ _ _ _ _ _
    (lane ws j 3 small low (omega arith))
    (lane ws j 2 small low (omega arith))
    (lane ws j 1 small low (omega arith))
    (lane ws j 0 small low (omega arith) ∙ ap (λ (w : ℕ). w % 256) (omega arith))

pub lanes-state : (ws : List ℕ) → Each1 (λ w. w < 4294967296) ws → pick_l 0 (lanes ws) highest_first ≡ state ws
unfolding state
lanes-state ws small =
    joined _ _ _ _ _ _ _ _
    (column-of-lanes ws 0 small (omega arith))
    (column-of-lanes ws 1 small (omega arith))
    (column-of-lanes ws 2 small (omega arith))
    (column-of-lanes ws 3 small (omega arith))

pub state-length : (ws : List ℕ) → length (state ws) ≡ 16
unfolding state column
state-length ws = refl
