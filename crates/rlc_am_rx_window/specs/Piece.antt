-- What a PDU brings of its number's data field.
use Rattle.std.specs.Prelude.{ℕ, ◌+◌, ◌/◌, ◌%◌, ◌==◌, Bool, true, false, List, [], ◌∷◌, ◌++◌}
use Rattle.std.specs.Prelude.{length, Option, Some, None}
use Rattle.rlc_pdu.specs.declared.Segment.{Segment}
use Rattle.rlc_pdu.specs.Pdus.{AmdPdu}
use Rattle.rlc_am_rx_window.specs.Cells.{Cell, cell}

-- the octets from a place on, whether an SDU begins with them, and whether the field ends with them
pub record Piece : Type 0 where
  pub so : ℕ
  pub last : Bool
  pub begins : Bool
  pub cells : List Cell

-- the place behind its last octet
abbrev pub end_of : Piece → ℕ
end_of p = p.so + length p.cells

-- an element: whether an SDU begins and ends with it, and its octets
abbrev pub element_cells : Bool → Bool → List ℕ → List Cell
element_cells begins ends [] = []
element_cells begins ends (o ∷ []) = cell o begins ends ∷ []
element_cells begins ends (o ∷ p ∷ os) = cell o begins false ∷ element_cells false ends (p ∷ os)

-- elements, between any two of which an SDU ends and the next begins
abbrev pub data_cells : Bool → Bool → List (List ℕ) → List Cell
data_cells begins ends [] = []
data_cells begins ends (e ∷ []) = element_cells begins ends e
data_cells begins ends (e ∷ f ∷ es) = element_cells begins true e ++ data_cells true ends (f ∷ es)

-- FI: its upper bit is 0 where the data begins an SDU, its lower bit where it ends one (TS 36.322
-- 6.2.2.6)
abbrev pub begins_in : ℕ → Bool
begins_in fi = fi / 2 % 2 == 0

abbrev pub ends_in : ℕ → Bool
ends_in fi = fi % 2 == 0

-- SO and LSF; an AMD PDU that isn't a segment brings the whole field (TS 36.322 6.2.2.7, 6.2.2.8)
abbrev pub so_of : Option Segment → ℕ
so_of None = 0
so_of (Some s) = s.so

abbrev pub is_last : Option Segment → Bool
is_last None = true
is_last (Some s) = s.last

abbrev pub piece_of : AmdPdu → Piece
piece_of p = record {
  so = so_of p.segment;
  last = is_last p.segment;
  begins = begins_in p.fi;
  cells = data_cells (begins_in p.fi) (ends_in p.fi) p.elements;
}

-- how many octets elements have
abbrev pub octets_in : List (List ℕ) → ℕ
octets_in [] = 0
octets_in (e ∷ es) = length e + octets_in es

abbrev pub is_end : List (List ℕ) → Bool
is_end [] = true
is_end (e ∷ es) = false

-- an element, if there is one, and those that follow it
abbrev pub and_rest : Option (List ℕ) → List (List ℕ) → List (List ℕ)
and_rest None es = []
and_rest (Some e) es = e ∷ es
