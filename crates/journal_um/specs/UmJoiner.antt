-- Joining pieces to SDUs, number by number (docs/laws/ACCOUNT.md; TS 36.322 5.1.2.2.3).
use Rattle.std.specs.Prelude.{ℕ, ◌+◌, Bool, false, ◌||◌, nat_le, if◌then◌else◌, List, [], ◌∷◌}
use Rattle.std.specs.Prelude.{◌++◌, drop, Option, Some, None, option_map}
use Rattle.journal_um.specs.declared.pieces.JoinedSdu.{JoinedSdu}
use Rattle.journal_um.specs.declared.pieces.Piece.{Piece}

-- how many SNs PDCP has; the octets of the SDU whose beginning was joined and whose end wasn't; the
-- place behind that of the SDU that went up last in the life; whether so many were ever left out;
-- and the SDUs that go up
pub record UmJoiner : Type 0 where
  pub many : ℕ
  pub part : Option (List ℕ)
  pub next : ℕ
  pub long : Bool
  pub ready : List JoinedSdu

abbrev pub nothing_joined : ℕ → UmJoiner
nothing_joined many = record { many = many; part = None; next = 0; long = false; ready = [] }

-- what is open with a piece
abbrev pub opened : Piece → Option (List ℕ) → Option (List ℕ)
opened p part = if p.begins then Some p.octets
    else option_map (λ (octets : List ℕ). octets ++ p.octets) part

abbrev pub with_part : Option (List ℕ) → UmJoiner → UmJoiner
with_part part j = record j { part = part }

abbrev pub with_sdu : JoinedSdu → UmJoiner → UmJoiner
with_sdu sdu j = record j {
  next = sdu.place + 1;
  long = j.long || nat_le (j.next + j.many) sdu.place;
  ready = j.ready ++ sdu ∷ [];
}

-- what is open ends, as the SDU of a place
abbrev pub closed : ℕ → Option (List ℕ) → UmJoiner → UmJoiner
closed place None j = with_part None j
closed place (Some octets) j =
    with_sdu (record { place = place; octets = octets }) (with_part None j)

abbrev pub with_piece : Piece → UmJoiner → UmJoiner
with_piece p j = if p.ends then closed p.place (opened p j.part) j
    else with_part (opened p j.part) j

abbrev pub with_pieces : List Piece → UmJoiner → UmJoiner
with_pieces [] j = j
with_pieces (p ∷ ps) j = with_pieces ps (with_piece p j)

-- a number is passed: its pieces are joined, or what was open is lost
abbrev pub with_pdu : Option (List Piece) → UmJoiner → UmJoiner
with_pdu None j = with_part None j
with_pdu (Some pieces) j = with_pieces pieces j

abbrev pub with_pdus : List (Option (List Piece)) → UmJoiner → UmJoiner
with_pdus [] j = j
with_pdus (pdu ∷ pdus) j = with_pdus pdus (with_pdu pdu j)

-- the life ends
abbrev pub life_joined : UmJoiner → UmJoiner
life_joined j = record j { part = None; next = 0 }

-- the next SDU is taken
abbrev pub one_taken : UmJoiner → UmJoiner
one_taken j = record j { ready = drop 1 j.ready }
