-- Which SDUs an unacknowledged receiver hands up, by its history (TS 36.322 5.1.2.2.3, 5.1.2.2.4,
-- 5.4): those whose pieces follow each other in accepted numbers below VR(UR).
use Rattle.std.specs.Prelude.{ℕ, zero, suc, if◌then◌else◌, List, [], ◌∷◌, ◌++◌, map, Option, Some}
use Rattle.std.specs.Prelude.{None, option_to_list}
use Rattle.journal_um.specs.declared.pieces.JoinedSdu.{JoinedSdu}
use Rattle.journal_um.specs.declared.pieces.Piece.{Piece}
use Rattle.journal_um.specs.UmEvents.{UmEvent, UmLifeEvent, InLife, LifeEnded, running}
use Rattle.journal_um.specs.UmNumbers.{pdu_of, edge_in, top_in}

-- ---- the numbers below one, ascending, as a row of pieces and gaps

-- an accepted number stands for its pieces, one that wasn't accepted is a gap
abbrev pub pieces_or_gap : Option (List Piece) → List (Option Piece)
pieces_or_gap None = None ∷ []
pieces_or_gap (Some pieces) = map (λ (p : Piece). Some p) pieces

abbrev pub row_below : (ℕ → Option (List Piece)) → ℕ → List (Option Piece)
row_below pdus zero = []
row_below pdus (suc n) = row_below pdus n ++ pieces_or_gap (pdus n)

-- ---- an SDU is a piece that begins, and those that follow, of which the last alone ends it

-- an SDU that has begun with octets goes on in a row
abbrev pub ended_in : List ℕ → List (Option Piece) → Option JoinedSdu
ended_in octets [] = None
ended_in octets (None ∷ row) = None
ended_in octets (Some p ∷ row) =
    if p.begins then None
    else if p.ends then Some (record { place = p.place; octets = octets ++ p.octets })
    else ended_in (octets ++ p.octets) row

-- the SDU that begins with a row
abbrev pub begun_by : List (Option Piece) → Option JoinedSdu
begun_by [] = None
begun_by (None ∷ row) = None
begun_by (Some p ∷ row) =
    if p.begins then (if p.ends then Some (record { place = p.place; octets = p.octets })
    else ended_in p.octets row)
    else None

-- those that begin at each place of a row, in its order
abbrev pub sdus_in : List (Option Piece) → List JoinedSdu
sdus_in [] = []
sdus_in (piece ∷ row) = option_to_list (begun_by (piece ∷ row)) ++ sdus_in row

-- ---- what goes up

-- in the life that runs, what stands below VR(UR)
abbrev pub joined_in : ℕ → List UmEvent → List JoinedSdu
joined_in width es = sdus_in (row_below (pdu_of width es) (edge_in width es))

-- as a life ends, all that was accepted
abbrev pub all_joined_in : ℕ → List UmEvent → List JoinedSdu
all_joined_in width es = sdus_in (row_below (pdu_of width es) (top_in width es))

-- in the lives that have ended
abbrev pub handed_before : ℕ → List UmLifeEvent → List JoinedSdu
handed_before width [] = []
handed_before width (InLife e ∷ es) = handed_before width es
handed_before width (LifeEnded ∷ es) = handed_before width es ++ all_joined_in width (running es)

-- through all lives, in order
abbrev pub handed_in : ℕ → List UmLifeEvent → List JoinedSdu
handed_in width es = handed_before width es ++ joined_in width (running es)
