-- The pieces that a sender writes stand in the order of their SDUs.
use Rattle.std.proofs.Common.{◌≡◌, ◌≤◌, ◌<◌, ℕ, zero, suc, ◌+◌, ◌-◌, ◌%◌, ◌==◌, Bool, true, false, ◌||◌, nat_lt, nat_le}
use Rattle.std.proofs.Common.{if◌then◌else◌, List, [], ◌∷◌, ◌++◌, map, length, Option, Some, None, slice_get}
use Rattle.std.proofs.Common.{append_assoc}
use Rattle.std.proofs.Common.{append-nil, refl, ap, sym, subst, ◌∙◌, arith}
use Rattle.std.proofs.lemmas.Bool.Decides.{nat_tests}
use Rattle.std.proofs.Math.Nat.{mod-lt}
use Rattle.std.specs.Prelude.{option_to_list}
use Rattle.l2_num.specs.Ascending.{IsAscending}
use Rattle.rlc_pdu.specs.Pdus.{UmdPdu}
use Rattle.rlc_am_rx_window.specs.Piece.{begins_in, ends_in}
use Rattle.journal_account.specs.FlowEvents.{FlowEvent, SduTaken, field_sizes}
use Rattle.journal_account.specs.Stream.{sdu_sizes, end_of_all}
use Rattle.journal_flows.specs.UmPdus.{ended_by, place_next, pieces_from}
use Rattle.journal_um.specs.declared.pieces.JoinedSdu.{JoinedSdu}
use Rattle.journal_um.specs.declared.pieces.Piece.{Piece}
use Rattle.journal_um.specs.LossLaws.{AreInOrder, places_of}
use Rattle.journal_um.specs.UmSdus.{pieces_or_gap, row_below, ended_in, sdus_in}
use Rattle.law_um.specs.UmLived.{behind_piece, ArePlaced, behind_pieces, AreInPlace}
use Rattle.law_um.specs.UmWriting.{pieces_of}

-- ---- what is written next stands no earlier as more SDUs are taken

more_end : (place : ℕ) (sizes more : List ℕ) → ended_by place sizes ≤ ended_by place (sizes ++ more)
more_end place [] more = omega arith
more_end place (size ∷ sizes) more = by (nat_le size place) (more_end (place - size) sizes more)
  where
    by : (b : Bool) → ended_by (place - size) sizes ≤ ended_by (place - size) (sizes ++ more)
        → (if b then ended_by (place - size) sizes + 1 else 0)
        ≤ (if b then ended_by (place - size) (sizes ++ more) + 1 else 0)
    by true h = omega (arith, h)
    by false h = omega arith

pub place_stays : (es : List FlowEvent) (size : ℕ) → place_next es ≤ place_next (SduTaken size ∷ es)
place_stays es size =
    subst (λ (n : ℕ). place_next es ≤ ended_by n (sdu_sizes es ++ size ∷ []))
    (ap end_of_all (sym (append-nil (field_sizes es))))
    (more_end (end_of_all (field_sizes es)) (sdu_sizes es) (size ∷ []))

pub later_place : (low : ℕ) (written : List (List Piece)) (next later : ℕ) → next ≤ later
    → AreInPlace low written next → AreInPlace low written later
later_place low [] next later le h = omega (arith, le, h)
later_place low (pieces ∷ more) next later le h =
    (h.0, later_place (behind_pieces low pieces) more next later le h.1)

-- ---- a new PDU

from_lower : (low high : ℕ) (ps : List Piece) → low ≤ high → ArePlaced high ps → ArePlaced low ps
from_lower low high [] le h = tt
from_lower low high (p ∷ ps) le h = let from = h.0 in (omega (arith, le, from), h.1)

behind_lower : (low high : ℕ) (ps : List Piece) → low ≤ high → behind_pieces low ps ≤ behind_pieces high ps
behind_lower low high [] le = le
behind_lower low high (p ∷ ps) le = omega arith

pub place_more : (written : List (List Piece)) (low next later : ℕ) (own : List Piece) → AreInPlace low written next
    → ArePlaced next own → behind_pieces next own ≤ later → AreInPlace low (written ++ own ∷ []) later
place_more [] low next later own h placed le =
    let more = behind_lower low next own h in
    (from_lower low next own h placed, omega (arith, more, le))
place_more (pieces ∷ more) low next later own h placed le =
    (h.0, place_more more (behind_pieces low pieces) next later own h.1 placed le)

one_behind : (b : Bool) (place : ℕ) → (if b then place + 1 else place) ≤ place + 1
one_behind true place = omega arith
one_behind false place = omega arith

from_placed : (low place : ℕ) (b e : Bool) (xs : List (List ℕ)) → low ≤ place
    → ArePlaced low (pieces_from place b e xs)
from_placed low place b e [] le = tt
from_placed low place b e (x ∷ xs) le = (
  le,
  from_placed (if e || nat_lt 0 (length xs) then place + 1 else place) (place + 1) true e xs
      (one_behind (e || nat_lt 0 (length xs)) place),
)

abbrev not_ended : Bool → ℕ
not_ended e = if e then 0 else 1

last_behind : (e : Bool) (place : ℕ) → (if e || false then place + 1 else place) ≤ place + (1 - not_ended e)
last_behind true place = omega arith
last_behind false place = omega arith

one_more : (e : Bool) (behind place n : ℕ) → behind ≤ place + 1 + (suc n - not_ended e)
    → behind ≤ place + (suc (suc n) - not_ended e)
one_more true behind place n le = omega (arith, le)
one_more false behind place n le = omega (arith, le)

from_behind : (low place : ℕ) (b e : Bool) (xs : List (List ℕ)) → low ≤ place
    → behind_pieces low (pieces_from place b e xs) ≤ place + (length xs - not_ended e)
from_behind low place b e [] le = omega (arith, le)
from_behind low place b e (x ∷ []) le = last_behind e place
from_behind low place b e (x ∷ y ∷ ys) le =
    let first : ℕ = if e || nat_lt 0 (length (y ∷ ys)) then place + 1 else place in
    one_more e (behind_pieces first (pieces_from (place + 1) true e (y ∷ ys))) place (length ys)
    (from_behind first (place + 1) true e (y ∷ ys) (one_behind (e || nat_lt 0 (length (y ∷ ys))) place))

pub own_placed : (place : ℕ) (pdu : UmdPdu) → ArePlaced place (pieces_of place pdu)
own_placed place pdu = from_placed place place (begins_in pdu.fi) (ends_in pdu.fi) pdu.elements (omega arith)

low_bit : (fi : ℕ) (b : Bool) → (fi % 2 == 0) ≡ b → fi % 2 ≡ not_ended b
low_bit fi true e = grind (arith, nat_tests, e)
low_bit fi false e =
    let two : fi % 2 < 2 = mod-lt fi (omega arith) in
    grind (arith, nat_tests, e, two)

pub own_behind : (place : ℕ) (pdu : UmdPdu)
    → behind_pieces place (pieces_of place pdu) ≤ place + (length pdu.elements - pdu.fi % 2)
own_behind place pdu =
    subst (λ (n : ℕ). behind_pieces place (pieces_of place pdu) ≤ place + (length pdu.elements - n))
    (sym (low_bit pdu.fi (ends_in pdu.fi) refl))
    (from_behind place place (begins_in pdu.fi) (ends_in pdu.fi) pdu.elements (omega arith))

-- ---- a row of pieces and gaps

abbrev InRow : ℕ → List (Option Piece) → Type 0
InRow low [] = Unit {0}
InRow low (None ∷ row) = InRow low row
InRow low (Some p ∷ row) = (low ≤ p.place) × InRow (behind_piece p) row

gap_behind : (low : ℕ) (row : List (Option Piece)) → InRow low row → InRow low (row ++ None ∷ [])
gap_behind low [] h = tt
gap_behind low (None ∷ row) h = gap_behind low row h
gap_behind low (Some p ∷ row) h = (h.0, gap_behind (behind_piece p) row h.1)

pieces_before : (low : ℕ) (ps : List Piece) (row : List (Option Piece)) → ArePlaced low ps
    → InRow (behind_pieces low ps) row → InRow low (map (λ (p : Piece). Some p) ps ++ row)
pieces_before low [] row h k = k
pieces_before low (p ∷ ps) row h k = (h.0, pieces_before (behind_piece p) ps row h.1 k)

-- the row of what was written
abbrev written_row : List (List Piece) → ℕ → List (Option Piece)
written_row written n = row_below (λ number. slice_get written number) n

first_row : (pieces : List Piece) (more : List (List Piece)) (n : ℕ)
    → written_row (pieces ∷ more) (suc n) ≡ map (λ (p : Piece). Some p) pieces ++ written_row more n
first_row pieces more zero = sym (append-nil (map (λ (p : Piece). Some p) pieces))
first_row pieces more (suc n) =
    ap (λ (l : List (Option Piece)). l ++ pieces_or_gap (slice_get more n)) (first_row pieces more n)
    ∙ append_assoc (map (λ (p : Piece). Some p) pieces) (written_row more n) (pieces_or_gap (slice_get more n))

row_placed : (n low next : ℕ) (written : List (List Piece)) → AreInPlace low written next
    → InRow low (written_row written n)
row_placed zero low next written h = tt
row_placed (suc n) low next [] h = gap_behind low (written_row [] n) (row_placed n low next [] h)
row_placed (suc n) low next (pieces ∷ more) h =
    subst (InRow low) (sym (first_row pieces more n))
    (pieces_before low pieces (written_row more n) h.0
    (row_placed n (behind_pieces low pieces) next more h.1))

-- ---- its SDUs ascend

lower : (low high : ℕ) (xs : List ℕ) → low ≤ high → IsAscending high xs → IsAscending low xs
lower low high [] le a = tt
lower low high (x ∷ xs) le a = let from = a.0 in (omega (arith, le, from), a.1)

-- an SDU, and those behind it
abbrev Rises : ℕ → JoinedSdu → List (Option Piece) → Type 0
Rises low sdu row = (low ≤ sdu.place) × IsAscending (sdu.place + 1) (places_of (sdus_in row))

nothing : (low : ℕ) (sdu : JoinedSdu) (row : List (Option Piece)) → None ≡ Some sdu → Rises low sdu row
nothing low sdu row e = absurd cc

record Ascends (row : List (Option Piece)) : Type 0 where
  all : (low : ℕ) → InRow low row → IsAscending low (places_of (sdus_in row))
  first : (octets : List ℕ) (low : ℕ) (sdu : JoinedSdu) → ended_in octets row ≡ Some sdu → InRow low row
      → Rises low sdu row

begins_row : (low : ℕ) (p : Piece) (row : List (Option Piece)) (o : Option JoinedSdu) → ended_in p.octets row ≡ o
    → low ≤ p.place → InRow p.place row → Ascends row
    → IsAscending low (places_of (option_to_list o ++ sdus_in row))
begins_row low p row None e le h a = lower low p.place (places_of (sdus_in row)) le (a.all p.place h)
begins_row low p row (Some sdu) e le h a =
    let r = a.first p.octets p.place sdu e h in
    let from = r.0 in
    (omega (arith, le, from), r.1)

all_with : (b e : Bool) (low : ℕ) (p : Piece) (row : List (Option Piece)) → low ≤ p.place
    → InRow (if e then p.place + 1 else p.place) row → Ascends row
    → IsAscending low (places_of (option_to_list (if b
    then (if e then Some (record { place = p.place; octets = p.octets }) else ended_in p.octets row)
    else None) ++ sdus_in row))
all_with true true low p row le h a = (le, a.all (p.place + 1) h)
all_with true false low p row le h a = begins_row low p row (ended_in p.octets row) refl le h a
all_with false true low p row le h a =
    lower low (p.place + 1) (places_of (sdus_in row)) (omega (arith, le)) (a.all (p.place + 1) h)
all_with false false low p row le h a = lower low p.place (places_of (sdus_in row)) le (a.all p.place h)

same_sdu : (x y : JoinedSdu) → Some x ≡ Some y → x ≡ y
same_sdu x y e = cc

first_with : (b e : Bool) (octets : List ℕ) (low : ℕ) (p : Piece) (sdu : JoinedSdu) (row : List (Option Piece))
    → (if b then None else if e then Some (record { place = p.place; octets = octets ++ p.octets })
    else ended_in (octets ++ p.octets) row) ≡ Some sdu
    → low ≤ p.place → InRow (if e then p.place + 1 else p.place) row → Ascends row
    → (low ≤ sdu.place) × IsAscending (sdu.place + 1) (places_of (option_to_list (if b
    then (if e then Some (record { place = p.place; octets = p.octets }) else ended_in p.octets row)
    else None) ++ sdus_in row))
first_with true e octets low p sdu row q le h a = absurd cc
first_with false true octets low p sdu row q le h a =
    subst (λ (x : JoinedSdu). Rises low x row)
    (same_sdu (record { place = p.place; octets = octets ++ p.octets }) sdu q) (le, a.all (p.place + 1) h)
first_with false false octets low p sdu row q le h a =
    let r = a.first (octets ++ p.octets) p.place sdu q h in
    let from = r.0 in
    (omega (arith, le, from), r.1)

ascends : (row : List (Option Piece)) → Ascends row
ascends [] = record {
  all = λ low h. tt;
  first = λ octets low sdu e h. nothing low sdu [] e;
}
ascends (None ∷ row) = let a = ascends row in record {
  all = λ low h. a.all low h;
  first = λ octets low sdu e h. nothing low sdu (None ∷ row) e;
}
ascends (Some p ∷ row) = let a = ascends row in record {
  all = λ low h. all_with p.begins p.ends low p row h.0 h.1 a;
  first = λ octets low sdu e h. first_with p.begins p.ends octets low p sdu row e h.0 h.1 a;
}

pub are_in_order : (written : List (List Piece)) (next : ℕ) → AreInPlace 0 written next
    → AreInOrder (λ number. slice_get written number)
are_in_order written next h n = (ascends (written_row written n)).all 0 (row_placed n 0 next written h)
