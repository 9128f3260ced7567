-- What is held of one number (TS 36.322 5.1.3.2.3).
use Rattle.std.specs.Prelude.{ℕ, ◌==◌, Bool, false, ◌||◌, ◌&&◌, List, [], length, Option, Some}
use Rattle.std.specs.Prelude.{None, nat_le, nat_lt, if◌then◌else◌}
use Rattle.rlc_am_rx_window.specs.Cells.{Cell, laid, holds, begins_otherwise, ends_otherwise}
use Rattle.rlc_am_rx_window.specs.Cells.{differ}
use Rattle.rlc_am_rx_window.specs.Piece.{Piece, end_of}

-- the places of its field up to the last octet that has arrived, the field's length once that is
-- told, and whether a poll came with a PDU that was kept
pub record Held : Type 0 where
  pub cells : List (Option Cell)
  pub size : Option ℕ
  pub polled : Bool

abbrev pub nothing : Held
nothing = record { cells = []; size = None; polled = false }

-- the field's length, as far as a piece tells it
abbrev pub told_size : Option ℕ → Bool → ℕ → Option ℕ
told_size (Some n) last end = Some n
told_size None last end = if last then Some end else None

abbrev pub with_piece : Held → Piece → Bool → Held
with_piece h p poll = record {
  cells = laid h.cells p.so p.cells;
  size = told_size h.size p.last (end_of p);
  polled = h.polled || poll;
}

-- each octet of the field has arrived
abbrev pub is_full : List (Option Cell) → Option ℕ → Bool
is_full cells None = false
is_full cells (Some n) = holds cells 0 n

abbrev pub is_complete : Held → Bool
is_complete h = is_full h.cells h.size

-- the last octet that has arrived is the field's last
abbrev pub ends_at : Option ℕ → ℕ → Bool
ends_at None have = false
ends_at (Some n) have = n == have

abbrev pub has_end : Held → Bool
has_end h = ends_at h.size (length h.cells)

-- the field's length, or as long as it isn't told the octets that have arrived, speak against a
-- piece that ends at a place and is the last or isn't: a field goes on behind a piece that isn't
-- the last
abbrev pub size_differs : Option ℕ → ℕ → Bool → ℕ → Bool
size_differs (Some n) have last end = nat_lt n end || differ last (n == end)
size_differs None have last end = last && nat_le end have

-- some boundary that is known speaks against a piece
abbrev pub disagrees : List (Option Cell) → Piece → Bool
disagrees cells p = begins_otherwise cells p.so p.begins || ends_otherwise cells p.so p.cells

-- what is held speaks against a piece, or an octet of it lies past the last place that a field may
-- have
abbrev pub clashes : Held → Piece → Bool
clashes h p = nat_lt 32767 (end_of p) || size_differs h.size (length h.cells) p.last (end_of p)
    || disagrees h.cells p
