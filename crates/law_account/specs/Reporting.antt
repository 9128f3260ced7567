-- The STATUS that a receiver writes, by the account of the flow that it hears (TS 36.322 5.2.3,
-- 6.2.1.6).
use Rattle.std.specs.Prelude.{◌≡◌, ◌≤◌, ◌<◌, ℕ, ◌+◌, true, List, map}
use Rattle.rlc_pdu.specs.declared.constants.TheConstants.{AM_WINDOW_SIZE}
use Rattle.rlc_am_rx.specs.State.{State}
use Rattle.rlc_am_rx.specs.Status.{chosen, ack, nacks}
use Rattle.journal_account.specs.declared.entry.StatusEntry.{StatusEntry}
use Rattle.journal_account.specs.Entries.{names_number}
use Rattle.journal_account.specs.FlowArrivals.{FlowArrivals}
use Rattle.journal_account.specs.FlowStatus.{is_true_status}
use Rattle.law_account.specs.LateStatus.{entry_of}
use Rattle.law_account.specs.TrueStatus.{nack_with}
use Rattle.law_account.specs.Receiving.{IsReceiverAccounted}

-- the entries of a STATUS of at most so many octets, with their true numbers
abbrev pub reported : State → ℕ → List StatusEntry
reported s size = map entry_of (chosen s size)

-- With true numbers the STATUS is true of the account; the NACK_SNs are those of its entries, in
-- their order; and it speaks of numbers from VR(R) on, up to VR(MS), which lies a window above at
-- most.
pub record IsReportTrue (s : State) (a : FlowArrivals) (size : ℕ) : Type 0 where
  pub is_true : is_true_status (ack s size) (reported s size) a ≡ true
  pub nack_sns : nacks s size ≡ map nack_with (reported s size)
  pub ack_from : a.front ≤ ack s size
  pub ack_to : ack s size ≤ a.bound
  pub bound_near : a.bound ≤ a.front + AM_WINDOW_SIZE
  pub from : (n : ℕ) → names_number (reported s size) n ≡ true → a.front ≤ n
  pub below : (n : ℕ) → names_number (reported s size) n ≡ true → n < a.bound

abbrev pub ReportsAreTrue : Type 0
ReportsAreTrue = (s : State) (a : FlowArrivals) (size : ℕ) → IsReceiverAccounted s a
    → IsReportTrue s a size
