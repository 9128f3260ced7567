-- The unacknowledged receiver as a machine (TS 36.322 5.1.2.2).
use Rattle.std.specs.Prelude.{ℕ, ◌-◌, ◌*◌, Bool, false, ◌||◌, ◌&&◌, if◌then◌else◌, List, [], drop}
use Rattle.std.specs.Prelude.{take, Option, Some, None, is_some, is_none, nat_le, nat_lt}
use Rattle.l2_num.specs.Timers.{Clock, stopped, begun, ceased, ticked}
use Rattle.rlc_pdu.specs.Pdus.{UmdPdu}
use Rattle.rlc_pdu.specs.declared.outcome.Landed.{Landed}
use Rattle.rlc_pdu.specs.declared.outcome.Landed.TheVariants.{Kept, Repeat, Outside, Clash}
use Rattle.rlc_pdu.specs.declared.outcome.Turned.{Turned}
use Rattle.rlc_pdu.specs.declared.outcome.Expired.{Expired}
use Rattle.rlc_pdu.specs.declared.outcome.Expired.TheVariants.{Done, NotRunning}
use Rattle.rlc_um.specs.Joined.{Parts, parts_of, Joined, nothing_joined, with_numbers}
use Rattle.rlc_um.specs.Window.{Window, top_of, number_of, leading, slot_at, passed, fallen}
use Rattle.rlc_um.specs.Window.{with_placed}

-- `mark` is VR(UX), VR(UH) as the reordering timer started, while it runs; `clock` is that timer
pub record State : Type 0 where
  pub window : Window
  pub joined : Joined
  pub mark : Option ℕ
  pub clock : Clock

-- a receiver that may have run out of memory, and then answers so for good
pub record Entity : Type 0 where
  pub state : State
  pub dead : Bool

abbrev pub alive : State → Entity
alive s = record { state = s; dead = false }

abbrev pub start : ℕ → ℕ → State
start width reorder = record {
  window = record { width = width; edge = 2 * width; slots = [] };
  joined = nothing_joined;
  mark = None;
  clock = stopped reorder;
}

-- the first numbers are passed, and their elements joined
abbrev pub pass : ℕ → State → State
pass n s = record s {
  window = passed n s.window;
  joined = with_numbers (take n s.window.slots) s.joined;
}

-- VR(UR) moves past the received numbers that stand first
abbrev pub advanced : State → State
advanced s = pass (leading s.window.slots) s

-- What comes of a PDU (TS 36.322 5.1.2.2.2): one below VR(UR), or received before, is dropped.

abbrev pub landed : State → ℕ → Landed
landed s x = if nat_lt x s.window.edge || is_some (slot_at s.window.slots (x - s.window.edge))
    then Repeat else Kept

-- The reordering timer (TS 36.322 5.1.2.2.3): it stops where VR(UX) isn't above VR(UR). It stops
-- too where VR(UX) lies below the window, and then it isn't above VR(UR) either. If it doesn't run
-- then and something is missing below VR(UH), it starts.

abbrev pub mark_left : Option ℕ → ℕ → Option ℕ
mark_left None edge = None
mark_left (Some x) edge = if nat_le x edge then None else Some x

abbrev pub mark_begun : Option ℕ → ℕ → ℕ → Option ℕ
mark_begun (Some x) edge top = Some x
mark_begun None edge top = if nat_lt edge top then Some top else None

abbrev pub stops : Option ℕ → Window → Bool
stops mark w = is_some mark && is_none (mark_left mark w.edge)

abbrev pub starts : Option ℕ → Window → Bool
starts mark w = is_none (mark_left mark w.edge) && nat_lt w.edge (top_of w)

abbrev pub turned_by : Option ℕ → Window → Turned
turned_by mark w = record { stopped = stops mark w; started = starts mark w }

abbrev pub clock_turned : Turned → Clock → Clock
clock_turned t c = if t.started then begun c else if t.stopped then ceased c else c

abbrev pub timed : State → State
timed s = record s {
  mark = mark_begun (mark_left s.mark s.window.edge) s.window.edge (top_of s.window);
  clock = clock_turned (turned_by s.mark s.window) s.clock;
}

-- a PDU is kept at a place above VR(UR): what falls out of the window is passed
abbrev pub put : ℕ → Parts → State → State
put at p s = record (pass (fallen s.window at) s) {
  window =
      with_placed (at - fallen s.window at) p (passed (fallen s.window at) s.window);
}

-- and VR(UR) moves
abbrev pub kept : ℕ → Parts → State → State
kept at p s = advanced (put at p s)

abbrev pub after_landing : Landed → ℕ → Parts → State → State
after_landing Kept x p s = timed (kept (x - s.window.edge) p s)
after_landing Repeat x p s = s
after_landing Outside x p s = s
after_landing Clash x p s = s

abbrev pub turned_on : Landed → ℕ → Parts → State → Turned
turned_on Kept x p s = turned_by s.mark (kept (x - s.window.edge) p s).window
turned_on Repeat x p s = record { stopped = false; started = false }
turned_on Outside x p s = record { stopped = false; started = false }
turned_on Clash x p s = record { stopped = false; started = false }

abbrev pub arrived : ℕ → Parts → State → State
arrived x p s = after_landing (landed s x) x p s

abbrev pub turned : ℕ → Parts → State → Turned
turned x p s = turned_on (landed s x) x p s

-- a PDU arrives: what comes of it, what it does to the timer, and what it leaves
unfoldable pub landing : UmdPdu → State → Landed
landing pdu s = landed s (number_of s.window pdu.sn)

unfoldable pub turning : UmdPdu → State → Turned
turning pdu s = turned (number_of s.window pdu.sn) (parts_of pdu) s

unfoldable pub arrival : UmdPdu → State → State
arrival pdu s = arrived (number_of s.window pdu.sn) (parts_of pdu) s

-- What an expiry of the timer does (TS 36.322 5.1.2.2.4): VR(UR) moves to the first number at or
-- above VR(UX) that wasn't received.

abbrev pub at_mark : ℕ → State → State
at_mark x s = record (advanced (pass (x - s.window.edge) s)) { mark = None; clock = ceased s.clock }

abbrev pub after_expiry : Option ℕ → State → State
after_expiry None s = s
after_expiry (Some x) s = timed (at_mark x s)

abbrev pub expiry : Option ℕ → State → Expired
expiry None s = NotRunning
expiry (Some x) s = Done (starts None (at_mark x s).window)

-- the timer expires: what comes of it, and what it leaves
unfoldable pub expiring : State → Expired
expiring s = expiry s.mark s

unfoldable pub expired : State → State
expired s = after_expiry s.mark s

-- a TTI begins
abbrev pub counted : State → State
counted s = record s { clock = ticked s.clock }

-- the next SDU has gone up
abbrev pub handed : State → State
handed s = record s { joined = record s.joined { ready = drop 1 s.joined.ready } }

-- what a receiver hands up as it ends (TS 36.322 5.4)
unfoldable pub all_joined : State → List (List ℕ)
all_joined s = (with_numbers s.window.slots s.joined).ready
