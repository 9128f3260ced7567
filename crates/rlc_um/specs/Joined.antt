-- Joining the elements of PDUs that follow each other (TS 36.322 5.1.2.2.3).
use Rattle.std.specs.Prelude.{ℕ, ◌%◌, Bool, true, false, ◌||◌, List, [], ◌∷◌, ◌++◌, length, Option}
use Rattle.std.specs.Prelude.{Some, None, nat_lt, ◌==◌}
use Rattle.rlc_pdu.specs.Pdus.{UmdPdu}

-- what a PDU carries: its elements, whether the first begins an SDU, and whether the last ends one
pub record Parts : Type 0 where
  pub begins : Bool
  pub ends : Bool
  pub elements : List (List ℕ)

-- by FI (TS 36.322 6.2.2.6)
abbrev pub parts_of : UmdPdu → Parts
parts_of pdu = record { begins = nat_lt pdu.fi 2; ends = pdu.fi % 2 == 0; elements = pdu.elements }

-- the SDUs that may go up, and the octets of one whose beginning has been joined and whose end
-- hasn't
pub record Joined : Type 0 where
  pub ready : List (List ℕ)
  pub part : Option (List ℕ)

abbrev pub nothing_joined : Joined
nothing_joined = record { ready = []; part = None }

-- what is open with an element
abbrev pub opened : Bool → List ℕ → Option (List ℕ) → Option (List ℕ)
opened true octets part = Some octets
opened false octets None = None
opened false octets (Some p) = Some (p ++ octets)

-- the SDU that ends with it
abbrev pub finished : Bool → Option (List ℕ) → List (List ℕ)
finished true None = []
finished true (Some p) = p ∷ []
finished false part = []

-- what is open behind it
abbrev pub left_open : Bool → Option (List ℕ) → Option (List ℕ)
left_open true part = None
left_open false part = part

abbrev pub with_element : Bool → Bool → List ℕ → Joined → Joined
with_element begins ends octets j = record {
  ready = j.ready ++ finished ends (opened begins octets j.part);
  part = left_open ends (opened begins octets j.part);
}

-- the elements of a PDU: all but the first begin an SDU, all but the last end one
abbrev pub with_elements : Bool → Bool → List (List ℕ) → Joined → Joined
with_elements begins ends [] j = j
with_elements begins ends (x ∷ xs) j =
    with_elements true ends xs (with_element begins (ends || nat_lt 0 (length xs)) x j)

-- a number is passed: its PDU's elements are joined, or it is missing and what was open is lost
abbrev pub with_number : Option Parts → Joined → Joined
with_number None j = record { ready = j.ready; part = None }
with_number (Some p) j = with_elements p.begins p.ends p.elements j

abbrev pub with_numbers : List (Option Parts) → Joined → Joined
with_numbers [] j = j
with_numbers (s ∷ ss) j = with_numbers ss (with_number s j)
