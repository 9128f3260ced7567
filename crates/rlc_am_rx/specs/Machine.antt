-- The receiver's calls: what each leaves and answers (TS 36.322 5.1.3.2, 5.2.3).
use Rattle.std.specs.Prelude.{ℕ, ◌+◌, ◌-◌, Bool, true, false, ◌||◌, ◌&&◌, if◌then◌else◌, List, drop}
use Rattle.std.specs.Prelude.{Option, Some, None, option_map, is_none, nat_le, nat_lt}
use Rattle.l2_num.specs.Timers.{Clock, begun, ceased, ticked, ends}
use Rattle.rlc_pdu.specs.declared.Landed.{Landed}
use Rattle.rlc_pdu.specs.declared.Landed.TheVariants.{Kept, Repeat, Outside, Clash}
use Rattle.rlc_pdu.specs.declared.Turned.{Turned}
use Rattle.rlc_pdu.specs.declared.Expired.{Expired}
use Rattle.rlc_pdu.specs.declared.Expired.TheVariants.{Done, NotRunning}
use Rattle.rlc_pdu.specs.Pdus.{AmdPdu}
use Rattle.rlc_am_rx_window.specs.Piece.{piece_of}
use Rattle.rlc_am_rx_window.specs.Window.{RxWindow, top, offset_of, first_incomplete, polled_in}
use Rattle.rlc_am_rx_window.specs.Window.{landed as landed_in, with_kept, handed_on, advanced}
use Rattle.rlc_am_rx_window.specs.Window.{salvaged}
use Rattle.rlc_am_rx.specs.State.{State}
use Rattle.rlc_am_rx.specs.Status.{is_running}

-- ---- the reordering timer, by its mark

-- it stops where VR(X) is VR(R), or has left the window
abbrev pub stops : Option ℕ → ℕ → Bool
stops None front = false
stops (Some x) front = nat_le x front

abbrev pub mark_left : Option ℕ → ℕ → Option ℕ
mark_left mark front = if stops mark front then None else mark

-- it starts where it doesn't run and something above VR(R) has arrived
abbrev pub starts : Option ℕ → ℕ → ℕ → Bool
starts mark front top = is_none mark && nat_lt front top

abbrev pub mark_begun : Option ℕ → ℕ → ℕ → Option ℕ
mark_begun mark front top = if starts mark front top then Some top else mark

abbrev pub clock_left : Bool → Clock → Clock
clock_left stopped c = if stopped then ceased c else c

abbrev pub clock_begun : Bool → Clock → Clock
clock_begun started c = if started then begun c else c

abbrev pub turned_by : Option ℕ → RxWindow → Turned
turned_by mark w = record {
  stopped = stops mark w.front;
  started = starts (mark_left mark w.front) w.front (top w);
}

-- ---- a PDU

abbrev pub landed : State → AmdPdu → Landed
landed s p = landed_in s.window p.sn (piece_of p)

-- the window with what a PDU brings
abbrev pub window_with : RxWindow → AmdPdu → RxWindow
window_with w p = with_kept w (offset_of w.front p.sn) (piece_of p) p.poll

-- VR(MS) once it has moved to the first number at or above it that isn't complete
abbrev pub bound_moved : RxWindow → ℕ → ℕ
bound_moved w bound = w.front + first_incomplete w.slots (bound - w.front)

-- a polled number comes to lie below it
abbrev pub poll_passed : RxWindow → ℕ → Bool
poll_passed w bound =
    polled_in w.slots (bound - w.front) (first_incomplete w.slots (bound - w.front))

-- a poll in the number at a place lies below it
abbrev pub poll_below : RxWindow → ℕ → ℕ → Bool → Bool
poll_below w bound at poll = poll && nat_lt at (first_incomplete w.slots (bound - w.front))

-- the steps that follow once a PDU is kept at a place of the window w
abbrev pub settled : State → RxWindow → ℕ → Bool → State
settled s w at poll = record s {
  window = advanced w;
  out = handed_on s.out w.slots w.given;
  bound = bound_moved w s.bound;
  mark = mark_begun (mark_left s.mark (advanced w).front) (advanced w).front (top (advanced w));
  reorder = clock_begun (turned_by s.mark (advanced w)).started
      (clock_left (turned_by s.mark (advanced w)).stopped s.reorder);
  due = s.due || poll_below w s.bound at poll || poll_passed w s.bound;
}

abbrev pub after_landing : Landed → State → AmdPdu → State
after_landing Kept s p = settled s (window_with s.window p) (offset_of s.window.front p.sn) p.poll
after_landing Repeat s p = record s { due = s.due || p.poll }
after_landing Outside s p = record s { due = s.due || p.poll }
after_landing Clash s p = s

abbrev pub turned_on : Landed → State → AmdPdu → Turned
turned_on Kept s p = turned_by s.mark (advanced (window_with s.window p))
turned_on Repeat s p = record { stopped = false; started = false }
turned_on Outside s p = record { stopped = false; started = false }
turned_on Clash s p = record { stopped = false; started = false }

abbrev pub arrived : State → AmdPdu → State
arrived s p = after_landing (landed s p) s p

abbrev pub turned : State → AmdPdu → Turned
turned s p = turned_on (landed s p) s p

-- ---- an expiry of the reordering timer (TS 36.322 5.1.3.2.4)

abbrev pub after_reorder : Option ℕ → State → State
after_reorder None s = s
after_reorder (Some x) s = record s {
  bound = bound_moved s.window x;
  mark = if nat_lt (bound_moved s.window x) (top s.window) then Some (top s.window) else None;
  reorder = clock_begun (nat_lt (bound_moved s.window x) (top s.window)) (ceased s.reorder);
  due = true;
}

abbrev pub reorder_answer : Option ℕ → State → Expired
reorder_answer None s = NotRunning
reorder_answer (Some x) s = Done (nat_lt (bound_moved s.window x) (top s.window))

-- ---- the prohibit timer

abbrev pub after_prohibit : State → State
after_prohibit s = record s { prohibit = option_map ceased s.prohibit }

abbrev pub prohibit_answer : State → Expired
prohibit_answer s = if is_running s.prohibit then Done false else NotRunning

-- ---- a TTI begins

abbrev pub reorder_ticked : State → State
reorder_ticked s = record s { reorder = ticked s.reorder }

abbrev pub prohibit_ticked : State → State
prohibit_ticked s = record s { prohibit = option_map ticked s.prohibit }

abbrev pub prohibit_ends : Option Clock → Bool
prohibit_ends None = false
prohibit_ends (Some c) = ends c

-- ---- a STATUS is written

abbrev pub written : State → State
written s = record s { prohibit = option_map begun s.prohibit; due = false }

-- ---- what goes up

abbrev pub taken : State → State
taken s = record s { out = record s.out { ready = drop 1 s.out.ready } }

-- at the end: what is ready, and what can still be put together
abbrev pub finished : State → List (List ℕ)
finished s = (salvaged s.out s.window.slots s.window.given).ready
