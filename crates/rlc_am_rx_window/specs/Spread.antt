-- How the places of a number's data field are kept (TS 36.322 5.1.3.2.3).
use Rattle.std.specs.Prelude.{ℕ, Bool, false, ◌||◌, List, [], ◌∷◌, ◌++◌, map, drop, replicate}
use Rattle.std.specs.Prelude.{Option, Some, None, zero, suc}
use Rattle.rlc_am_rx_window.specs.Cells.{Cell, over, edge_between, cell_at, denies}
use Rattle.rlc_am_rx_window.specs.Piece.{element_cells}

-- octets of one element that came together, behind so many places that aren't held
pub record Stretched : Type 0 where
  pub gap : ℕ
  pub octets : List ℕ
  pub begins : Bool
  pub ends : Bool

abbrev pub cells_in : Stretched → List (Option Cell)
cells_in s = map (λ c. Some c) (element_cells s.begins s.ends s.octets)

-- the places of stretches, and so many behind them that aren't held
abbrev pub spread : List Stretched → ℕ → List (Option Cell)
spread [] tail = replicate tail None
spread (s ∷ ss) tail = replicate s.gap None ++ (cells_in s ++ spread ss tail)

-- behind places that are done, new ones beside those that follow; the first of the new ones were
-- passed
abbrev pub laid_on : List (Option Cell) → List (Option Cell) → ℕ → List (Option Cell)
    → List (Option Cell)
laid_on done rest passed new = done ++ over rest (drop passed new)

-- an SDU is known to end behind a place at or above one and below another
abbrev pub ends_within : List (Option Cell) → ℕ → ℕ → Bool
ends_within [] from to = false
ends_within (c ∷ cs) from zero = false
ends_within (c ∷ cs) zero (suc to) = denies (edge_between c (cell_at cs 0)) false
    || ends_within cs 0 to
ends_within (c ∷ cs) (suc from) (suc to) = ends_within cs from to
