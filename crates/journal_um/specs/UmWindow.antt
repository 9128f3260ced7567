-- The numbers from VR(UR) on below VR(UH), as they are kept (docs/laws/ACCOUNT.md; TS 36.322 7.1).
use Rattle.std.specs.Prelude.{ℕ, ◌+◌, ◌-◌, ◌==◌, Bool, ◌||◌, nat_lt, if◌then◌else◌, List, [], ◌∷◌}
use Rattle.std.specs.Prelude.{◌++◌, length, drop, replicate, Option, Some, None, is_some, slice_set}
use Rattle.std.specs.Prelude.{slice_index_or, min}
use Rattle.rlc_pdu.specs.declared.constants.TheConstants.{UM_SHORT_WINDOW_SIZE}
use Rattle.rlc_pdu.specs.declared.constants.TheConstants.{UM_LONG_WINDOW_SIZE}
use Rattle.journal_um.specs.declared.pieces.Piece.{Piece}

-- UM_Window_Size (7.2)
abbrev pub width_of : ℕ → ℕ
width_of bits = if bits == 5 then UM_SHORT_WINDOW_SIZE else UM_LONG_WINDOW_SIZE

-- `edge` is VR(UR), and `pdus` are those accepted of the numbers from there on
pub record UmWindow : Type 0 where
  pub width : ℕ
  pub edge : ℕ
  pub pdus : List (Option (List Piece))

abbrev pub empty_window : ℕ → UmWindow
empty_window width = record { width = width; edge = 0; pdus = [] }

-- VR(UH)
abbrev pub top_of : UmWindow → ℕ
top_of w = w.edge + length w.pdus

abbrev pub pdu_at : List (Option (List Piece)) → ℕ → Option (List Piece)
pdu_at pdus at = slice_index_or pdus at None

-- a PDU read as this number is dropped (5.1.2.2.2)
abbrev pub is_dropped : ℕ → UmWindow → Bool
is_dropped n w = nat_lt n w.edge || is_some (pdu_at w.pdus (n - w.edge))

-- how many accepted numbers stand first
abbrev pub leading : List (Option (List Piece)) → ℕ
leading [] = 0
leading (None ∷ pdus) = 0
leading (Some pieces ∷ pdus) = leading pdus + 1

-- the first numbers left out, as many as there are
abbrev pub passed : ℕ → UmWindow → UmWindow
passed n w = record w { edge = w.edge + min n (length w.pdus); pdus = drop n w.pdus }

-- how many fall out below VR(UH) - W as a number at a place behind VR(UR) is accepted
abbrev pub fallen : UmWindow → ℕ → ℕ
fallen w at = at + 1 - w.width

-- so many numbers at least
abbrev pub grown : List (Option (List Piece)) → ℕ → List (Option (List Piece))
grown pdus size = pdus ++ replicate (size - length pdus) None

abbrev pub placed : List (Option (List Piece)) → ℕ → List Piece → List (Option (List Piece))
placed pdus at pieces = slice_set (grown pdus (at + 1)) at (Some pieces)

abbrev pub with_placed : ℕ → List Piece → UmWindow → UmWindow
with_placed at pieces w = record w { pdus = placed w.pdus at pieces }
