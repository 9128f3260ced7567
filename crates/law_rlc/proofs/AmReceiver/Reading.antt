-- What was read brings an octet.
use Rattle.std.proofs.Common.{◌≤◌, ℕ, Bool, true, List, [], ◌∷◌, length, map, arith, length-append}
use Rattle.rlc_pdu.specs.Pdus.{AreLens}
use Rattle.rlc_am_rx_window.specs.Piece.{element_cells, data_cells, begins_in, ends_in}
use Rattle.law_rlc.specs.AmReceiver.Status.{ReadBringSome}

some-element : (b e : Bool) (x : List ℕ) → 1 ≤ length x → 1 ≤ length (element_cells b e x)
some-element b e [] h = absurd (omega (arith, h))
some-element b e (o ∷ []) h = omega arith
some-element b e (o ∷ p ∷ os) h = omega arith

some-data : (b e : Bool) (es : List (List ℕ)) → AreLens (map length es) → 1 ≤ length (data_cells b e es)
some-data b e [] lens = absurd lens
some-data b e (x ∷ []) lens = some-element b e x lens
some-data b e (x ∷ y ∷ es) lens =
    omega (arith, length-append (element_cells b true x) (data_cells true e (y ∷ es)), some-element b true x lens.0)

pub read_bring_some : ReadBringSome
read_bring_some pdu octets is = some-data (begins_in pdu.fi) (ends_in pdu.fi) pdu.elements is.lens
