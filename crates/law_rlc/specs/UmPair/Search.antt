-- The joined SDUs as a search (TS 36.322 5.1.2.2.3): elements that follow each other, the first of
-- which begins an SDU, the last of which ends it, and none of which does so between.
use Rattle.std.specs.Prelude.{◌≡◌, ℕ, Bool, true, false, ◌||◌, List, [], ◌∷◌, ◌++◌, length, Option}
use Rattle.std.specs.Prelude.{Some, None, nat_lt}
use Rattle.rlc_um.specs.Joined.{Parts, nothing_joined, with_numbers}

-- what stands in the row of numbers: an element, or a number that is missing
pub data Piece : Type 0 where
  Missing : Piece
  Element : (octets : List ℕ) (begins ends : Bool) → Piece

abbrev pub elements_of : Bool → Bool → List (List ℕ) → List Piece → List Piece
elements_of begins ends [] more = more
elements_of begins ends (x ∷ xs) more =
    Element x begins (ends || nat_lt 0 (length xs)) ∷ elements_of true ends xs more

abbrev pub pieces : List (Option Parts) → List Piece
pieces [] = []
pieces (None ∷ ss) = Missing ∷ pieces ss
pieces (Some p ∷ ss) = elements_of p.begins p.ends p.elements (pieces ss)

-- the SDU whose octets so far are followed by these pieces
abbrev pub goes_on : List ℕ → List Piece → Option (List ℕ)
goes_on octets [] = None
goes_on octets (Missing ∷ ps) = None
goes_on octets (Element x true ends ∷ ps) = None
goes_on octets (Element x false true ∷ ps) = Some (octets ++ x)
goes_on octets (Element x false false ∷ ps) = goes_on (octets ++ x) ps

-- the SDU that begins with the first piece
abbrev pub begins_here : List Piece → Option (List ℕ)
begins_here [] = None
begins_here (Missing ∷ ps) = None
begins_here (Element x false ends ∷ ps) = None
begins_here (Element x true true ∷ ps) = Some x
begins_here (Element x true false ∷ ps) = goes_on x ps

abbrev pub one_or_none : Option (List ℕ) → List (List ℕ)
one_or_none None = []
one_or_none (Some x) = x ∷ []

-- those that begin at each piece, in order
abbrev pub searched : List Piece → List (List ℕ)
searched [] = []
searched (p ∷ ps) = one_or_none (begins_here (p ∷ ps)) ++ searched ps

abbrev pub IsSearch : List (Option Parts) → Type 0
IsSearch numbers = (with_numbers numbers nothing_joined).ready ≡ searched (pieces numbers)
