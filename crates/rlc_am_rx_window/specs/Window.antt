-- The window of an acknowledged receiver (TS 36.322 7.1).
use Rattle.std.specs.Prelude.{ℕ, ◌+◌, ◌-◌, ◌%◌, Bool, true, false, if◌then◌else◌, List, [], ◌∷◌}
use Rattle.std.specs.Prelude.{◌++◌, length, drop, replicate, Option, Some, None, nat_le, nat_lt}
use Rattle.std.specs.Prelude.{slice_get, slice_set, slice_index_or, slice_range}
use Rattle.std.specs.List.{list_any}
use Rattle.rlc_pdu.specs.declared.Landed.{Landed}
use Rattle.rlc_pdu.specs.declared.Landed.TheVariants.{Kept, Repeat, Outside, Clash}
use Rattle.rlc_am_rx_window.specs.Cells.{leading, holds}
use Rattle.rlc_am_rx_window.specs.Piece.{Piece, end_of}
use Rattle.rlc_am_rx_window.specs.Held.{Held, nothing, with_piece, is_complete, has_end, clashes}
use Rattle.rlc_am_rx_window.specs.Joined.{Joined, joined, broken}
use Rattle.rlc_pdu.specs.declared.constants.TheConstants.{AM_MODULUS, AM_WINDOW_SIZE}

-- front is VR(R); slots have what is held of each number from there on below VR(H); so many octets
-- of the front's field were handed on
pub record RxWindow : Type 0 where
  pub front : ℕ
  pub slots : List Held
  pub given : ℕ

abbrev pub no_numbers : RxWindow
no_numbers = record { front = 0; slots = []; given = 0 }

-- VR(H)
abbrev pub top : RxWindow → ℕ
top w = w.front + length w.slots

-- how far a number of 10 bits lies above the front
abbrev pub offset_of : ℕ → ℕ → ℕ
offset_of front sn = (sn + AM_MODULUS - front % AM_MODULUS) % AM_MODULUS

-- how many complete numbers stand first
abbrev pub complete_first : List Held → ℕ
complete_first [] = 0
complete_first (h ∷ hs) = if is_complete h then complete_first hs + 1 else 0

-- the first number at or above a place that isn't complete
abbrev pub first_incomplete : List Held → ℕ → ℕ
first_incomplete slots from = from + complete_first (drop from slots)

-- a poll came with one of the numbers from a place on below another
abbrev pub polled_in : List Held → ℕ → ℕ → Bool
polled_in slots from to = list_any (λ h. h.polled) (slice_range slots from to)

-- so many numbers at least
abbrev pub widened : List Held → ℕ → List Held
widened slots size = slots ++ replicate (size - length slots) nothing

abbrev pub slot_at : List Held → ℕ → Held
slot_at slots at = slice_index_or slots at nothing

-- no octet of a piece is new; where nothing has arrived each is
abbrev pub is_repeat : Option Held → Piece → Bool
is_repeat None p = false
is_repeat (Some h) p = holds h.cells p.so (length p.cells)

abbrev pub is_clash : Option Held → Piece → Bool
is_clash None p = nat_lt 32767 (end_of p)
is_clash (Some h) p = clashes h p

-- what comes of a piece of a number, by what is held of it
abbrev pub landing : Option Held → Piece → Landed
landing held p = if is_repeat held p then Repeat else if is_clash held p then Clash else Kept

-- what comes of a piece of a number with these 10 bits (TS 36.322 5.1.3.2.2)
abbrev pub landed : RxWindow → ℕ → Piece → Landed
landed w sn p = if nat_le AM_WINDOW_SIZE (offset_of w.front sn) then Outside
    else landing (slice_get w.slots (offset_of w.front sn)) p

-- a piece kept at a place
abbrev pub with_kept : RxWindow → ℕ → Piece → Bool → RxWindow
with_kept w at p poll = record w {
  slots =
      slice_set (widened w.slots (at + 1)) at
      (with_piece (slot_at (widened w.slots (at + 1)) at) p poll);
}

-- ---- in sequence: every octet before the first that hasn't arrived

abbrev pub handed_on : Joined → List Held → ℕ → Joined
handed_on j [] given = j
handed_on j (h ∷ hs) given =
    if is_complete h then handed_on (joined j (leading (drop given h.cells))) hs 0
    else joined j (leading (drop given h.cells))

abbrev pub given_after : List Held → ℕ → ℕ
given_after [] given = given
given_after (h ∷ hs) given = if is_complete h then given_after hs 0
    else given + length (leading (drop given h.cells))

-- the window once they are handed on
abbrev pub advanced : RxWindow → RxWindow
advanced w = record {
  front = w.front + complete_first w.slots;
  slots = drop (complete_first w.slots) w.slots;
  given = given_after w.slots w.given;
}

-- ---- at the end: every octet that hasn't been handed on; a field whose end hasn't arrived ends in
-- a gap

abbrev pub broken_unless : Bool → Joined → Joined
broken_unless true j = j
broken_unless false j = broken j

abbrev pub salvaged : Joined → List Held → ℕ → Joined
salvaged j [] given = j
salvaged j (h ∷ hs) given =
    salvaged (broken_unless (has_end h) (joined j (drop given h.cells))) hs 0
