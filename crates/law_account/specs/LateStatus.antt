-- A STATUS of a flow is written near VR(R), and is read right whenever it comes, however late (TS
-- 36.322 5.2.1, 5.2.3, 6.2.1.6, 7.1).
use Rattle.std.specs.Prelude.{◌≡◌, ◌≤◌, ℕ, ◌+◌, true, List, map}
use Rattle.std.specs.List.{AllByRecursion}
use Rattle.l2_types.specs.declared.config.AmTxConfig.{AmTxConfig}
use Rattle.l2_types.specs.declared.AmRxConfig.{AmRxConfig}
use Rattle.rlc_pdu.specs.declared.constants.TheConstants.{AM_WINDOW_SIZE}
use Rattle.rlc_am_rx_window.specs.declared.missing.Missing.{Missing}
use Rattle.rlc_am_rx.specs.State.{State as Receiver}
use Rattle.rlc_am_rx.specs.Status.{ack, chosen}
use Rattle.rlc_am_tx.specs.Machine.{State as Sender}
use Rattle.journal_account.specs.declared.entry.StatusEntry.{StatusEntry}
use Rattle.law_rlc.specs.AmReceiver.Status.{has_entry}
use Rattle.law_rlc.specs.AmPair.Flow.{Report, Step, sender, receiver, goes, am_rlc_outset}
use Rattle.law_rlc.specs.AmPair.Given.{AreGiven, IsReporting}
use Rattle.law_rlc.specs.AmPair.Statuses.{reduced}
use Rattle.law_account.specs.Heard.{IsHeard}
use Rattle.law_account.specs.TrueStatus.{HasTrueNumbers}

-- ---- it is written

-- a number from VR(R) on, and at most AM_Window_Size above it
pub record IsAhead (s : Receiver) (n : ℕ) : Type 0 where
  pub from : s.window.front ≤ n
  pub near : n ≤ s.window.front + AM_WINDOW_SIZE

-- so are the ACK and the entries of a STATUS of at most so many octets
pub record IsWrittenAhead (s : Receiver) (size : ℕ) : Type 0 where
  pub ack : IsAhead s (ack s size)
  pub entries : (n : ℕ) → has_entry (chosen s size) n ≡ true → IsAhead s n

-- whichever its receiver writes
abbrev pub StatusesAreWrittenAhead : Type 0
StatusesAreWrittenAhead = (sending : AmTxConfig) (receiving : AmRxConfig) (steps : List Step)
    (size : ℕ) (octets : List ℕ) → AreGiven (am_rlc_outset sending receiving) steps
    → IsReporting (goes steps (am_rlc_outset sending receiving)) size octets
    → IsWrittenAhead (receiver (goes steps (am_rlc_outset sending receiving))).state size

-- ---- it comes

-- an entry, as the account has it
abbrev pub entry_of : Missing → StatusEntry
entry_of m = record { number = m.number; part = m.part }

abbrev pub entries_of : Report → List StatusEntry
entries_of r = map entry_of r.entries

-- its sender reads the numbers that it was written for
pub record IsHeardLate (s : Sender) (r : Report) : Type 0 where
  pub numbers : HasTrueNumbers s.window (reduced r) r.ack (entries_of r)
  pub heard : IsHeard s (reduced r) r.ack (entries_of r)

-- whichever STATUS is under way
abbrev pub LateStatusesAreHeard : Type 0
LateStatusesAreHeard = (sending : AmTxConfig) (receiving : AmRxConfig) (steps : List Step)
    → AreGiven (am_rlc_outset sending receiving) steps
    → AllByRecursion (IsHeardLate (sender (goes steps (am_rlc_outset sending receiving))).state)
    (goes steps (am_rlc_outset sending receiving)).reports
