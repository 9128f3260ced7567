-- The numbers from VR(UR) on (TS 36.322 7.1). They are counted from twice the window up, so that
-- none is below 0: the number n of the sender stands here as n and twice the window, and has the
-- same sequence number.
use Rattle.std.specs.Prelude.{ℕ, ◌+◌, ◌-◌, ◌*◌, ◌%◌, List, [], ◌∷◌, ◌++◌, length, drop, replicate}
use Rattle.std.specs.Prelude.{Option, Some, None, slice_set, slice_index_or, min}
use Rattle.l2_num.specs.Numbers.{ahead}
use Rattle.rlc_um.specs.Joined.{Parts}

-- `edge` is VR(UR), the lowest number that is still awaited, and `slots` are those of the numbers
-- from there below VR(UH)
pub record Window : Type 0 where
  pub width : ℕ
  pub edge : ℕ
  pub slots : List (Option Parts)

-- VR(UH), one above the highest number received
abbrev pub top_of : Window → ℕ
top_of w = w.edge + length w.slots

-- the number with that sequence number, at or above VR(UH) less the window and below VR(UH) and the
-- window
abbrev pub number_of : Window → ℕ → ℕ
number_of w sn = top_of w - w.width + ahead sn ((top_of w - w.width) % (2 * w.width)) (2 * w.width)

-- how many received numbers stand first
abbrev pub leading : List (Option Parts) → ℕ
leading [] = 0
leading (None ∷ ss) = 0
leading (Some p ∷ ss) = leading ss + 1

abbrev pub slot_at : List (Option Parts) → ℕ → Option Parts
slot_at slots at = slice_index_or slots at None

-- so many numbers at least
abbrev pub grown : List (Option Parts) → ℕ → List (Option Parts)
grown slots size = slots ++ replicate (size - length slots) None

-- the first numbers left out, as many as there are
abbrev pub passed : ℕ → Window → Window
passed n w = record w { edge = w.edge + min n (length w.slots); slots = drop n w.slots }

-- how many numbers fall out below the window as one comes at a place
abbrev pub fallen : Window → ℕ → ℕ
fallen w at = at + 1 - w.width

-- a PDU put at a place
abbrev pub placed : List (Option Parts) → ℕ → Parts → List (Option Parts)
placed slots at p = slice_set (grown slots (at + 1)) at (Some p)

abbrev pub with_placed : ℕ → Parts → Window → Window
with_placed at p w = record w { slots = placed w.slots at p }
