-- The account of an unacknowledged flow through its lives, event by event (docs/laws/ACCOUNT.md).
use Rattle.std.specs.Prelude.{ℕ, ◌+◌, ◌-◌, ◌*◌, ◌%◌, Bool, false, ◌||◌, nat_le, if◌then◌else◌}
use Rattle.std.specs.Prelude.{List, [], ◌∷◌, take, Option, Some, None}
use Rattle.journal_um.specs.declared.pieces.Piece.{Piece}
use Rattle.journal_um.specs.UmEvents.{UmEvent, PduArrived, ReorderStarted, ReorderExpired}
use Rattle.journal_um.specs.UmEvents.{UmLifeEvent, InLife, LifeEnded}
use Rattle.journal_um.specs.UmNumbers.{read_number}
use Rattle.journal_um.specs.UmWindow.{UmWindow, empty_window, top_of, is_dropped, leading, passed}
use Rattle.journal_um.specs.UmWindow.{fallen, with_placed}
use Rattle.journal_um.specs.UmJoiner.{UmJoiner, nothing_joined, with_pdus, life_joined, one_taken}

-- `mark` is VR(UX); `far` is whether a number came that its SN doesn't tell
pub record UmFlow : Type 0 where
  pub window : UmWindow
  pub mark : ℕ
  pub far : Bool
  pub joiner : UmJoiner

-- as the first life begins, with UM_Window_Size and how many SNs PDCP has
abbrev pub empty_flow : ℕ → ℕ → UmFlow
empty_flow width many = record {
  window = empty_window width;
  mark = 0;
  far = false;
  joiner = nothing_joined many;
}

-- losses were long
abbrev pub is_long : UmFlow → Bool
is_long f = f.far || f.joiner.long

-- VR(UR) moves by so many numbers, which are joined
abbrev pub pass : ℕ → UmFlow → UmFlow
pass n f = record f {
  window = passed n f.window;
  joiner = with_pdus (take n f.window.pdus) f.joiner;
}

-- it moves past the accepted numbers that stand first
abbrev pub advanced : UmFlow → UmFlow
advanced f = pass (leading f.window.pdus) f

abbrev pub put : ℕ → List Piece → UmFlow → UmFlow
put at pieces f = record (pass (fallen f.window at) f) {
  window =
      with_placed (at - fallen f.window at) pieces (passed (fallen f.window at) f.window);
}

-- a PDU is accepted, at a place behind VR(UR)
abbrev pub kept : ℕ → List Piece → UmFlow → UmFlow
kept at pieces f = advanced (put at pieces f)

-- a PDU is read as a number
abbrev pub landed : Option ℕ → List Piece → UmFlow → UmFlow
landed None pieces f = f
landed (Some n) pieces f =
    if is_dropped n f.window then f else kept (n - f.window.edge) pieces f

abbrev pub numbered : ℕ → UmFlow → UmFlow
numbered number f =
    record f { far = f.far || nat_le (top_of f.window + f.window.width) number }

abbrev pub read_in : ℕ → UmFlow → Option ℕ
read_in number f =
    read_number f.window.width (top_of f.window) (number % (2 * f.window.width))

-- ---- events

abbrev pub living : UmEvent → UmFlow → UmFlow
living (PduArrived number pieces) f = landed (read_in number f) pieces (numbered number f)
living ReorderStarted f = record f { mark = top_of f.window }
living ReorderExpired f = advanced (pass (f.mark - f.window.edge) f)

abbrev pub ended : UmFlow → UmFlow
ended f = record f {
  window = empty_window f.window.width;
  mark = 0;
  joiner = life_joined (with_pdus f.window.pdus f.joiner);
}

abbrev pub flow_with : UmLifeEvent → UmFlow → UmFlow
flow_with (InLife e) f = living e f
flow_with LifeEnded f = ended f

-- the account of a history of which no SDU was taken
abbrev pub flow_of : ℕ → ℕ → List UmLifeEvent → UmFlow
flow_of width many [] = empty_flow width many
flow_of width many (e ∷ es) = flow_with e (flow_of width many es)

-- the next SDU is taken
abbrev pub sdu_taken : UmFlow → UmFlow
sdu_taken f = record f { joiner = one_taken f.joiner }
