-- Runs of a receiver, and which places have arrived in one (TS 36.322 5.1.3.2).
use Rattle.std.specs.Prelude.{◌≡◌, ℕ, ◌+◌, ◌<◌, ◌≤◌, Bool, true, false, ◌||◌, ◌&&◌, if◌then◌else◌}
use Rattle.std.specs.Prelude.{List, [], ◌∷◌, Option, Some, None, nat_le, nat_lt, ◌==◌}
use Rattle.l2_types.specs.declared.AmRxConfig.{AmRxConfig}
use Rattle.rlc_pdu.specs.declared.Landed.{Landed}
use Rattle.rlc_pdu.specs.declared.Landed.TheVariants.{Kept, Repeat, Outside, Clash}
use Rattle.rlc_pdu.specs.Pdus.{AmdPdu}
use Rattle.rlc_am_rx_window.specs.Piece.{Piece, piece_of, end_of}
use Rattle.rlc_am_rx_window.specs.Window.{top, offset_of}
use Rattle.rlc_am_rx.specs.State.{State, fresh}
use Rattle.rlc_am_rx.specs.Machine.{landed, arrived, after_reorder, after_prohibit, reorder_ticked}
use Rattle.rlc_am_rx.specs.Machine.{prohibit_ticked, written, taken}

-- what may be called of a receiver
pub data Call : Type 0 where
  Arrive : AmdPdu → Call
  Up : Call
  Write : Call
  ExpireReorder : Call
  ExpireProhibit : Call
  TickReorder : Call
  TickProhibit : Call

-- a piece of a number's field that was kept
pub record Came : Type 0 where
  pub number : ℕ
  pub piece : Piece

-- a receiver, and what it has kept, the latest first
pub record World : Type 0 where
  pub state : State
  pub kept : List Came

-- the number that a PDU is read as
abbrev pub number_read : State → AmdPdu → ℕ
number_read s p = s.window.front + offset_of s.window.front p.sn

abbrev pub came_of : State → AmdPdu → Came
came_of s p = record { number = number_read s p; piece = piece_of p }

abbrev pub kept_after : Landed → State → AmdPdu → List Came → List Came
kept_after Kept s p ps = came_of s p ∷ ps
kept_after Repeat s p ps = ps
kept_after Outside s p ps = ps
kept_after Clash s p ps = ps

-- the state that a call leaves
abbrev pub state_after : State → Call → State
state_after s (Arrive p) = arrived s p
state_after s Up = taken s
state_after s Write = written s
state_after s ExpireReorder = after_reorder s.mark s
state_after s ExpireProhibit = after_prohibit s
state_after s TickReorder = reorder_ticked s
state_after s TickProhibit = prohibit_ticked s

abbrev pub kept_with : World → Call → List Came
kept_with w (Arrive p) = kept_after (landed w.state p) w.state p w.kept
kept_with w Up = w.kept
kept_with w Write = w.kept
kept_with w ExpireReorder = w.kept
kept_with w ExpireProhibit = w.kept
kept_with w TickReorder = w.kept
kept_with w TickProhibit = w.kept

abbrev pub happens : World → Call → World
happens w c = record { state = state_after w.state c; kept = kept_with w c }

abbrev pub run_am_receiver : List Call → World → World
run_am_receiver [] w = w
run_am_receiver (c ∷ cs) w = run_am_receiver cs (happens w c)

abbrev pub begin : AmRxConfig → World
begin config = record { state = fresh config; kept = [] }

-- a piece covers a place of a number
abbrev pub covers : Came → ℕ → ℕ → Bool
covers p n i = (p.number == n) && (nat_le p.piece.so i && nat_lt i (end_of p.piece))

-- the place has arrived
abbrev pub place_has_come : List Came → ℕ → ℕ → Bool
place_has_come [] n i = false
place_has_come (p ∷ ps) n i = covers p n i || place_has_come ps n i

-- the length of the number's field, once a piece has told it
abbrev pub size_told_by : Option ℕ → Came → ℕ → Option ℕ
size_told_by (Some size) p n = Some size
size_told_by None p n = if (p.number == n) && p.piece.last then Some (end_of p.piece) else None

abbrev pub told : List Came → ℕ → Option ℕ
told [] n = None
told (p ∷ ps) n = size_told_by (told ps n) p n

-- all places of the number have arrived
abbrev pub IsComplete : List Came → ℕ → Type 0
IsComplete ps n = (size : ℕ) × (told ps n ≡ Some size)
    × ((i : ℕ) → i < size → place_has_come ps n i ≡ true)

-- VR(R) is the least number that isn't complete
pub record IsFirst (w : World) : Type 0 where
  pub below : (n : ℕ) → n < w.state.window.front → IsComplete w.kept n
  pub here : IsComplete w.kept w.state.window.front → ⊥

-- VR(R) ≤ VR(MS) ≤ VR(H)
pub record IsOrdered (w : World) : Type 0 where
  pub front : w.state.window.front ≤ w.state.bound
  pub bound : w.state.bound ≤ top w.state.window
