-- Runs of a receiver, and which numbers have been accepted in one (TS 36.322 5.1.2.2).
use Rattle.std.specs.Prelude.{◌≡◌, ℕ, suc, zero, ◌+◌, ◌-◌, ◌*◌, ◌<◌, ◌≤◌, Bool, true, false, List}
use Rattle.std.specs.Prelude.{[], ◌∷◌, ◌++◌, length, take, Option, Some, None, is_some, max, nat_lt}
use Rattle.std.specs.Prelude.{◌==◌, if◌then◌else◌}
use Rattle.l2_num.specs.Timers.{runs}
use Rattle.rlc_pdu.specs.Pdus.{UmdPdu}
use Rattle.rlc_pdu.specs.declared.outcome.Landed.{Landed}
use Rattle.rlc_pdu.specs.declared.outcome.Landed.TheVariants.{Kept, Repeat, Outside, Clash}
use Rattle.rlc_um.specs.Joined.{Parts, parts_of, Joined, nothing_joined, with_numbers}
use Rattle.rlc_um.specs.Window.{top_of, number_of}
use Rattle.rlc_um.specs.Receiver.{State, start, landing, arrival, expired, counted, handed}
use Rattle.rlc_um.specs.Receiver.{all_joined}

pub data Call : Type 0 where
  Arrive : UmdPdu → Call
  Expire : Call
  Tick : Call
  Up : Call

-- an accepted number, and what its PDU carries
pub record Accepted : Type 0 where
  pub number : ℕ
  pub parts : Parts

-- the state with what was accepted (the latest first), one above the greatest number that was read,
-- the greatest mark at which the timer expired, and what went up. Numbers are counted from twice
-- the window up, as those of the state are.
pub record World : Type 0 where
  pub state : State
  pub accepted : List Accepted
  pub top : ℕ
  pub mark : ℕ
  pub gone : List (List ℕ)

abbrev pub fresh : ℕ → ℕ → World
fresh width reorder = record {
  state = start width reorder;
  accepted = [];
  top = 2 * width;
  mark = 2 * width;
  gone = [];
}

abbrev pub accepts : Landed → ℕ → Parts → List Accepted → List Accepted
accepts Kept x p log = record { number = x; parts = p } ∷ log
accepts Repeat x p log = log
accepts Outside x p log = log
accepts Clash x p log = log

abbrev pub mark_after : Option ℕ → ℕ → ℕ
mark_after None mark = mark
mark_after (Some x) mark = max mark x

-- the number that a PDU is read as
abbrev pub read_number : UmdPdu → World → ℕ
read_number pdu w = number_of w.state.window pdu.sn

abbrev pub happens : World → Call → World
happens w (Arrive pdu) = record w {
  state = arrival pdu w.state;
  accepted = accepts (landing pdu w.state) (read_number pdu w) (parts_of pdu) w.accepted;
  top = max w.top (read_number pdu w + 1);
}
happens w Expire = record w { state = expired w.state; mark = mark_after w.state.mark w.mark }
happens w Tick = record w { state = counted w.state }
happens w Up = record w { state = handed w.state; gone = w.gone ++ take 1 w.state.joined.ready }

abbrev pub run_um_receiver : List Call → World → World
run_um_receiver [] w = w
run_um_receiver (c ∷ cs) w = run_um_receiver cs (happens w c)

-- what the PDU of a number carries, where it was accepted
abbrev pub found : List Accepted → ℕ → Option Parts
found [] n = None
found (a ∷ log) n = if a.number == n then Some a.parts else found log n

abbrev pub is_accepted : List Accepted → ℕ → Bool
is_accepted log n = is_some (found log n)

-- the base: the first number of all, the top less the window, and each mark at which the timer
-- expired, whichever is greatest
abbrev pub base : World → ℕ
base w = max w.mark (w.top - w.state.window.width)

-- VR(UH) is the top, and VR(UR) is the least number at or above the base that isn't accepted
pub record IsEdge (w : World) : Type 0 where
  pub top : top_of w.state.window ≡ w.top
  pub from : base w ≤ w.state.window.edge
  pub between : (n : ℕ) → base w ≤ n → n < w.state.window.edge → is_accepted w.accepted n ≡ true
  pub here : is_accepted w.accepted w.state.window.edge ≡ false

-- so many numbers from one on, each with what its PDU carries, or missing
abbrev pub numbers : List Accepted → ℕ → ℕ → List (Option Parts)
numbers log from zero = []
numbers log from (suc n) = found log from ∷ numbers log (from + 1) n

-- what the accepted numbers from one on and below another join to
abbrev pub joined_below : List Accepted → ℕ → ℕ → Joined
joined_below log first edge = with_numbers (numbers log first (edge - first)) nothing_joined

-- what went up and may go up is what the accepted numbers below VR(UR) join to
pub record IsHandedUp (w : World) : Type 0 where
  pub ready : w.gone ++ w.state.joined.ready
      ≡ (joined_below w.accepted (2 * w.state.window.width) w.state.window.edge).ready
  pub part : w.state.joined.part
      ≡ (joined_below w.accepted (2 * w.state.window.width) w.state.window.edge).part

-- as the receiver ends, what went up and what it hands over is what all accepted numbers join to
abbrev pub IsFinished : World → Type 0
IsFinished w = w.gone ++ all_joined w.state
    ≡ (joined_below w.accepted (2 * w.state.window.width) w.top).ready

-- no more PDUs are kept than the window has numbers
abbrev pub IsBounded : World → Type 0
IsBounded w = length w.state.window.slots ≤ w.state.window.width

-- the reordering timer runs exactly while a number below VR(UH) is missing, and then VR(UX) lies
-- above VR(UR) and not above VR(UH)
pub record IsTimed (w : World) : Type 0 where
  pub runs_with_mark : runs w.state.clock ≡ is_some w.state.mark
  pub runs_at_gap : is_some w.state.mark ≡ nat_lt w.state.window.edge (top_of w.state.window)
  pub above : (x : ℕ) → w.state.mark ≡ Some x → w.state.window.edge < x
  pub within : (x : ℕ) → w.state.mark ≡ Some x → x ≤ top_of w.state.window
