-- Where the state variables of an unacknowledged receiver stand in a life, and which numbers it has
-- accepted, by its history (TS 36.322 5.1.2.2.2 to 5.1.2.2.4, 7.1). W is UM_Window_Size.
use Rattle.std.specs.Prelude.{◌≡◌, ℕ, ◌+◌, ◌-◌, ◌*◌, ◌%◌, ◌==◌, ◌<◌, ◌≤◌, Bool, false, ◌&&◌}
use Rattle.std.specs.Prelude.{nat_le, nat_lt, max, if◌then◌else◌, List, [], ◌∷◌, Option, Some, None}
use Rattle.std.specs.Prelude.{is_some}
use Rattle.std.specs.Option.{option_or}
use Rattle.l2_num.specs.Least.{past}
use Rattle.l2_num.specs.Numbers.{ahead}
use Rattle.journal_um.specs.declared.pieces.Piece.{Piece}
use Rattle.journal_um.specs.UmEvents.{UmEvent, PduArrived, ReorderStarted, ReorderExpired}

-- ---- reading an SN

-- n is the number with an SN that stands W or less below VR(UH), or less than W above it
-- (5.1.2.2.1)
pub record IsReadAs (width top sn n : ℕ) : Type 0 where
  pub from : top ≤ n + width
  pub below : n < top + width
  pub sn_is : n % (2 * width) ≡ sn

-- it again, counted from twice W up, since it may lie below 0
abbrev pub raised_number : ℕ → ℕ → ℕ → ℕ
raised_number width top sn = let low = top + width in
    low + ahead sn (low % (2 * width)) (2 * width)

-- and none where it lies below 0
abbrev pub read_number : ℕ → ℕ → ℕ → Option ℕ
read_number width top sn = let raised = raised_number width top sn in
    if nat_lt raised (2 * width) then None else Some (raised - 2 * width)

-- the number that an event's PDU is read as, by its SN, its number modulo 2 W
abbrev pub read_as : ℕ → ℕ → UmEvent → Option ℕ
read_as width top (PduArrived number pieces) = read_number width top (number % (2 * width))
read_as width top other = None

-- ---- VR(UH), VR(UX), VR(UR)

abbrev pub number_above : Option ℕ → ℕ
number_above None = 0
number_above (Some n) = n + 1

-- VR(UH): one above the greatest number that was read, or 0
abbrev pub top_in : ℕ → List UmEvent → ℕ
top_in width [] = 0
top_in width (e ∷ es) = max (top_in width es) (number_above (read_as width (top_in width es) e))

-- VR(UX): VR(UH) as t-Reordering started last, or 0
abbrev pub mark_in : ℕ → List UmEvent → ℕ
mark_in width [] = 0
mark_in width (ReorderStarted ∷ es) = top_in width es
mark_in width (other ∷ es) = mark_in width es

-- the greatest VR(UX) at which t-Reordering expired, or 0
abbrev pub expired_mark : ℕ → List UmEvent → ℕ
expired_mark width [] = 0
expired_mark width (ReorderExpired ∷ es) = max (expired_mark width es) (mark_in width es)
expired_mark width (other ∷ es) = expired_mark width es

-- nothing below it is awaited: VR(UH) - W, or the greatest VR(UX) at which t-Reordering expired
abbrev pub base_in : ℕ → List UmEvent → ℕ
base_in width es = max (top_in width es - width) (expired_mark width es)

-- ---- accepted numbers

abbrev pub pieces_in : UmEvent → Option (List Piece)
pieces_in (PduArrived number pieces) = Some pieces
pieces_in other = None

abbrev pub is_number : Option ℕ → ℕ → Bool
is_number None n = false
is_number (Some own) n = own == n

-- an event's PDU is read as a number that isn't below the base
abbrev pub offered_as : ℕ → UmEvent → List UmEvent → ℕ → Option (List Piece)
offered_as width e es n =
    if is_number (read_as width (top_in width es) e) n && nat_le (base_in width es) n
    then pieces_in e else None

-- what was accepted under a number: the PDU that was first read so while the number wasn't below
-- the base. One that wasn't accepted isn't below the base exactly where it isn't below VR(UR).
abbrev pub pdu_of : ℕ → List UmEvent → ℕ → Option (List Piece)
pdu_of width [] n = None
pdu_of width (e ∷ es) n = option_or (pdu_of width es n) (offered_as width e es n)

abbrev pub is_accepted : ℕ → List UmEvent → ℕ → Bool
is_accepted width es n = is_some (pdu_of width es n)

-- VR(UR), the edge: the least number at or above the base that wasn't accepted (no number at or
-- above VR(UH) was)
abbrev pub edge_in : ℕ → List UmEvent → ℕ
edge_in width es = past (is_accepted width es) (top_in width es) (base_in width es)
