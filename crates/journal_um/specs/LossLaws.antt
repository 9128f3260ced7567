-- What goes up of an unacknowledged flow in a life while losses are short, by its history: each PDU
-- is read truly, and so is each COUNT (docs/laws/ACCOUNT.md).
use Rattle.std.specs.Prelude.{◌≡◌, ℕ, ◌+◌, ◌*◌, ◌%◌, ◌^◌, ◌<◌, Bool, true, false, List, [], ◌∷◌}
use Rattle.std.specs.Prelude.{map, Option, Some, Contains}
use Rattle.l2_num.specs.Ascending.{IsAscending}
use Rattle.l2_num.specs.Numbers.{recovered}
use Rattle.journal_um.specs.declared.pieces.JoinedSdu.{JoinedSdu}
use Rattle.journal_um.specs.declared.pieces.Piece.{Piece}
use Rattle.journal_um.specs.UmEvents.{UmEvent, PduArrived}
use Rattle.journal_um.specs.UmNumbers.{read_number, top_in, pdu_of, edge_in}
use Rattle.journal_um.specs.UmSdus.{row_below, sdus_in, joined_in, all_joined_in}
use Rattle.journal_um.specs.UmLosses.{far_came, leaves_out, highest_in, ComeInTime}

-- ---- each PDU is read as its true number

-- no number of a life came that stood W or more above VR(UH), and PDUs came in time
pub record IsShort (width : ℕ) (es : List UmEvent) : Type 0 where
  pub near : far_came width es ≡ false
  pub in_time : ComeInTime width es

-- then VR(UH) is one above the greatest number that has come
pub record IsReadTruly (width : ℕ) (es : List UmEvent) (number : ℕ) : Type 0 where
  pub number_is : read_number width (top_in width es) (number % (2 * width)) ≡ Some number
  pub top_is : top_in width es ≡ highest_in es

abbrev pub ReadsTruly : Type 0
ReadsTruly = (width number : ℕ) (pieces : List Piece) (es : List UmEvent) → 0 < width
    → IsShort width (PduArrived number pieces ∷ es) → IsReadTruly width es number

-- and what was accepted under a number came with it
abbrev pub AcceptsTruly : Type 0
AcceptsTruly = (width n : ℕ) (pieces : List Piece) (es : List UmEvent) → 0 < width
    → IsShort width es → pdu_of width es n ≡ Some pieces → Contains es (PduArrived n pieces)

-- ---- what goes up are some of the sender's SDUs

-- some SDUs of a list, in its order
abbrev pub chosen_of : List Bool → List JoinedSdu → List JoinedSdu
chosen_of [] sdus = []
chosen_of (b ∷ bs) [] = []
chosen_of (true ∷ bs) (sdu ∷ sdus) = sdu ∷ chosen_of bs sdus
chosen_of (false ∷ bs) (sdu ∷ sdus) = chosen_of bs sdus

pub record AreSomeOf (sdus all : List JoinedSdu) : Type 0 where
  pub choice : List Bool
  pub are : sdus ≡ chosen_of choice all

-- each PDU carries what the sender wrote under its number
abbrev pub CarryWritten : (ℕ → Option (List Piece)) → List UmEvent → Type 0
CarryWritten written es = (number : ℕ) (pieces : List Piece)
    → Contains es (PduArrived number pieces) → written number ≡ Some pieces

-- the SDUs that all PDUs of the sender below a number join to
abbrev pub written_below : (ℕ → Option (List Piece)) → ℕ → List JoinedSdu
written_below written n = sdus_in (row_below written n)

-- each once, unchanged, in order; below VR(UR), and below VR(UH) as the life ends
pub record AreLeft (width : ℕ) (written : ℕ → Option (List Piece)) (es : List UmEvent)
    : Type 0 where
  pub up : AreSomeOf (joined_in width es) (written_below written (edge_in width es))
  pub at_end : AreSomeOf (all_joined_in width es) (written_below written (top_in width es))

abbrev pub LosesOnly : Type 0
LosesOnly = (width : ℕ) (written : ℕ → Option (List Piece)) (es : List UmEvent) → 0 < width
    → IsShort width es → CarryWritten written es → AreLeft width written es

-- ---- PDCP reads the COUNT of each from its SN

-- at or above `next`, or behind that of the SDU before it (TS 36.323 5.1.2.1.3)
abbrev pub AreCounted : ℕ → ℕ → List JoinedSdu → Type 0
AreCounted bits next [] = Unit {0}
AreCounted bits next (sdu ∷ sdus) =
    (recovered next (sdu.place % 2 ^ bits) bits (2 ^ bits) ≡ Some sdu.place)
    × AreCounted bits (sdu.place + 1) sdus

abbrev pub places_of : List JoinedSdu → List ℕ
places_of sdus = map (λ (sdu : JoinedSdu). sdu.place) sdus

-- the sender gives its SDUs their places in order
abbrev pub AreInOrder : (ℕ → Option (List Piece)) → Type 0
AreInOrder written = (n : ℕ) → IsAscending 0 (places_of (written_below written n))

-- where not too many are left out
pub record CountsAre (bits width : ℕ) (es : List UmEvent) : Type 0 where
  pub up : leaves_out (2 ^ bits) 0 (joined_in width es) ≡ false
      → AreCounted bits 0 (joined_in width es)
  pub at_end : leaves_out (2 ^ bits) 0 (all_joined_in width es) ≡ false
      → AreCounted bits 0 (all_joined_in width es)

abbrev pub CountsAreRead : Type 0
CountsAreRead = (bits width : ℕ) (written : ℕ → Option (List Piece)) (es : List UmEvent)
    → 0 < width → IsShort width es → CarryWritten written es → AreInOrder written
    → CountsAre bits width es
