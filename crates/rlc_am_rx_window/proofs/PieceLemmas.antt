-- How many octets a PDU brings.
use Rattle.std.proofs.Common.{◌≡◌, ℕ, Bool, true, List, [], ◌∷◌, length, refl, arith, length-append}
use Rattle.rlc_am_rx_window.specs.Piece.{element_cells, data_cells, octets_in}
use Rattle.rlc_am_rx_window.proofs.CellLemmas.{length_element}

pub length_data : (b e : Bool) (es : List (List ℕ)) → length (data_cells b e es) ≡ octets_in es
length_data b e [] = refl
length_data b e (x ∷ []) = omega (arith, length_element b e x)
length_data b e (x ∷ y ∷ es) =
    omega (
      arith,
      length-append (element_cells b true x) (data_cells true e (y ∷ es)),
      length_element b true x,
      length_data true e (y ∷ es),
    )
