-- What an acknowledged receiver keeps, and what the account of its flow keeps of what has arrived
-- (TS 36.322 5.1.3.2, 7.1).
use Rattle.std.specs.Prelude.{◌≡◌, ◌≤◌, ◌<◌, ℕ, ◌+◌, ◌-◌, Bool, true, false, if◌then◌else◌}
use Rattle.std.specs.Prelude.{List, Option, Some, None, is_some, IfSome, length}
use Rattle.l2_types.specs.declared.AmRxConfig.{AmRxConfig}
use Rattle.rlc_pdu.specs.declared.constants.TheConstants.{AM_WINDOW_SIZE}
use Rattle.rlc_pdu.specs.declared.Landed.TheVariants.{Clash}
use Rattle.rlc_pdu.specs.declared.Expired.{Expired}
use Rattle.rlc_pdu.specs.declared.Expired.TheVariants.{Done, NotRunning}
use Rattle.rlc_pdu.specs.Pdus.{AmdPdu}
use Rattle.rlc_pdu.specs.Runs.{AreAscending, has}
use Rattle.rlc_am_rx_window.specs.Cells.{Cell, cell_at}
use Rattle.rlc_am_rx_window.specs.Piece.{piece_of, end_of}
use Rattle.rlc_am_rx_window.specs.Held.{Held}
use Rattle.rlc_am_rx_window.specs.Window.{RxWindow, top, slot_at}
use Rattle.rlc_am_rx.specs.State.{State, fresh}
use Rattle.rlc_am_rx.specs.Machine.{landed, arrived, turned, after_reorder, reorder_answer}
use Rattle.journal_account.specs.FlowArrivals.{FieldArrivals, FlowArrivals, none_written, next_in}
use Rattle.journal_account.specs.FlowArrivals.{field_at, is_whole, with_number, with_arrival}
use Rattle.journal_account.specs.FlowArrivals.{reorder_started, reorder_expired}
use Rattle.law_rlc.specs.AmReceiver.Run.{Call, Arrive, Up, Write, ExpireReorder, ExpireProhibit}
use Rattle.law_rlc.specs.AmReceiver.Run.{TickReorder, TickProhibit, state_after}
use Rattle.law_rlc.specs.AmReceiver.Stream.{IsSent}

-- of one number: an octet is held exactly where it came, the field's length is told once its last
-- octet has come, and the last place that is held has an octet
pub record AreOctetsAccounted (h : Held) (f : FieldArrivals) : Type 0 where
  pub some : 0 < f.size
  pub ascends : AreAscending 0 f.came
  pub octets : (i : ℕ) → is_some (cell_at h.cells i) ≡ has f.came i
  pub within : (i : ℕ) → f.size ≤ i → has f.came i ≡ false
  pub told : h.size ≡ (if has f.came (f.size - 1) then Some f.size else None)
  pub last : 0 < length h.cells → is_some (cell_at h.cells (length h.cells - 1)) ≡ true

-- where the reordering timer runs, its VR(X) is the account's, and from there on all numbers below
-- VR(MS) are complete
pub record IsMarkAccounted (a : FlowArrivals) (x : ℕ) : Type 0 where
  pub is : x ≡ a.mark
  pub low : x ≤ a.top
  pub passed : (k : ℕ) → x ≤ a.front + k → a.front + k < a.bound
      → is_whole (field_at a.fields k) ≡ true

-- VR(R), VR(MS) and VR(H) are the account's, in this order, VR(H) at most VT(S) and a window above
-- VR(R); neither VR(R) nor VR(MS) is complete; and so the numbers from VR(R) on, one by one
pub record AreArrivalsAccounted (w : RxWindow) (bound : ℕ) (mark : Option ℕ) (a : FlowArrivals)
    : Type 0 where
  pub front : w.front ≡ a.front
  pub bound_is : bound ≡ a.bound
  pub top_is : top w ≡ a.top
  pub front_low : a.front ≤ a.bound
  pub bound_low : a.bound ≤ a.top
  pub top_low : a.top ≤ next_in a
  pub top_near : a.top ≤ a.front + AM_WINDOW_SIZE
  pub front_open : is_whole (field_at a.fields 0) ≡ false
  pub bound_open : is_whole (field_at a.fields (a.bound - a.front)) ≡ false
  pub numbers : (k : ℕ) → AreOctetsAccounted (slot_at w.slots k) (field_at a.fields k)
  pub mark_is : IfSome mark (IsMarkAccounted a)

abbrev pub IsReceiverAccounted : State → FlowArrivals → Type 0
IsReceiverAccounted s a = AreArrivalsAccounted s.window s.bound s.mark a

-- nothing was written yet
abbrev pub ReceiverOutsetIsAccounted : Type 0
ReceiverOutsetIsAccounted = (config : AmRxConfig)
    → IsReceiverAccounted (fresh config) none_written

-- the sender writes a number
abbrev pub NumbersAreAwaited : Type 0
NumbersAreAwaited = (s : State) (a : FlowArrivals) (size : ℕ) → 0 < size
    → IsReceiverAccounted s a → IsReceiverAccounted s (with_number size a)

-- ---- a PDU comes

-- a number was written, with a field of this length
pub record IsWritten (field : List Cell) (n : ℕ) (a : FlowArrivals) : Type 0 where
  pub before : n < next_in a
  pub size : a.front ≤ n → (field_at a.fields (n - a.front)).size ≡ length field

-- t-Reordering may start then, as the receiver tells
abbrev pub started_in : Bool → FlowArrivals → FlowArrivals
started_in true a = reorder_started a
started_in false a = a

abbrev pub with_pdu : State → AmdPdu → ℕ → FlowArrivals → FlowArrivals
with_pdu s p n a = started_in (turned s p).started
    (with_arrival n (piece_of p).so (end_of (piece_of p)) a)

-- a part of a number's field comes, whole or not, for the first time or again, also of a number
-- below VR(R)
abbrev pub ArrivalsAreAccounted : Type 0
ArrivalsAreAccounted = (field : ℕ → List Cell) (s : State) (a : FlowArrivals) (p : AmdPdu) (n : ℕ)
    → IsSent field s p n → IsWritten (field n) n a → (landed s p ≡ Clash → ⊥)
    → IsReceiverAccounted s a → IsReceiverAccounted (arrived s p) (with_pdu s p n a)

-- ---- t-Reordering expires

abbrev pub expired_in : Expired → FlowArrivals → FlowArrivals
expired_in (Done again) a = started_in again (reorder_expired a)
expired_in NotRunning a = a

abbrev pub ReorderingIsAccounted : Type 0
ReorderingIsAccounted = (s : State) (a : FlowArrivals) → IsReceiverAccounted s a
    → IsReceiverAccounted (after_reorder s.mark s) (expired_in (reorder_answer s.mark s) a)

-- ---- any other call

-- it brings nothing, and it isn't an expiry of t-Reordering
abbrev pub LeavesArrivals : Call → Type 0
LeavesArrivals (Arrive p) = ⊥
LeavesArrivals Up = Unit {0}
LeavesArrivals Write = Unit {0}
LeavesArrivals ExpireReorder = ⊥
LeavesArrivals ExpireProhibit = Unit {0}
LeavesArrivals TickReorder = Unit {0}
LeavesArrivals TickProhibit = Unit {0}

abbrev pub OtherCallsAreAccounted : Type 0
OtherCallsAreAccounted = (s : State) (a : FlowArrivals) (c : Call) → LeavesArrivals c
    → IsReceiverAccounted s a → IsReceiverAccounted (state_after s c) a
