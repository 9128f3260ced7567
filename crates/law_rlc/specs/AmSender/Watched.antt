-- Where the poll timer runs (TS 36.322 5.2.2).
use Rattle.std.specs.Prelude.{◌≡◌, ℕ, ◌<◌, ◌≤◌, Bool, true, false, List, [], ◌∷◌, length}
use Rattle.l2_num.specs.Timers.{runs}
use Rattle.l2_types.specs.declared.config.AmTxConfig.{AmTxConfig}
use Rattle.rlc_pdu.specs.Pdus.{StatusPdu}
use Rattle.rlc_am_tx_window.specs.Window.{slot_at, offset_of, is_named}
use Rattle.rlc_am_tx.specs.Machine.{State, start, waits, is_quiet, settled as settled_state}
use Rattle.law_rlc.specs.AmSender.Run.{Call, Offer, Take, Status, Tick, Expire, Settle, Confirm}
use Rattle.law_rlc.specs.AmSender.Run.{after}
use Rattle.law_rlc.specs.AmSender.Namings.{names}
use Rattle.rlc_pdu.specs.declared.constants.TheConstants.{AM_WINDOW_SIZE}

-- a STATUS as a receiver writes it, however late it comes: each number in the window that it names
-- lies below its ACK_SN, and it names an octet of it unless it is acknowledged
pub record IsNaming (s : State) (status : StatusPdu) (k : ℕ) : Type 0 where
  pub below : k < offset_of s.window.base status.ack
  pub octet : (slot_at s.window.slots k).acked ≡ false
      → (i : ℕ) × (i < length (slot_at s.window.slots k).field)
      × (names s.window.base k status.nacks (length (slot_at s.window.slots k).field) i ≡ true)

abbrev pub IsHonest : State → StatusPdu → Type 0
IsHonest s status = (k : ℕ) → k < length s.window.slots
    → is_named s.window.base k status.nacks ≡ true → IsNaming s status k

abbrev pub IsFair : State → Call → Type 0
IsFair s (Offer sdu) = 0 < length sdu
IsFair s (Take size held more) = Unit {0}
IsFair s (Status status) = IsHonest s status
IsFair s Tick = Unit {0}
IsFair s (Expire more) = Unit {0}
IsFair s (Settle more) = Unit {0}
IsFair s Confirm = Unit {0}

-- each SDU offered has an octet, and each STATUS is one that a receiver writes
abbrev pub AreFair : State → List Call → Type 0
AreFair s [] = Unit {0}
AreFair s (c ∷ cs) = IsFair s c × AreFair (after s c) cs

abbrev pub state_after : List Call → State → State
state_after [] s = s
state_after (c ∷ cs) s = state_after cs (after s c)

-- unless the limit came: where the window is shut and nothing waits, the poll timer runs and
-- POLL_SN isn't below VT(A); and once `settle` was called, it runs wherever something isn't
-- acknowledged, nothing waits, and nothing is left to send or to take or the window is shut
pub record IsWatched (s : State) : Type 0 where
  pub shut : s.failed ≡ false → length s.window.slots ≡ AM_WINDOW_SIZE → waits s ≡ false
      → (runs s.polls.timer ≡ true) × (s.window.base ≤ s.polls.poll_number)
  pub settled : (more : Bool) → s.failed ≡ false → 0 < length s.window.slots
      → is_quiet s more ≡ true → runs (settled_state s more).polls.timer ≡ true

abbrev pub RunsThePollTimer : Type 0
RunsThePollTimer = (config : AmTxConfig) (calls : List Call) → AreFair (start config) calls
    → IsWatched (state_after calls (start config))
