-- A STATUS with 10 bits of true numbers, none of them far below VT(S) (TS 36.322 6.2.1.6, 7.1).
use Rattle.std.specs.Prelude.{◌≡◌, ◌≤◌, ◌<◌, ℕ, ◌+◌, ◌%◌, true, List, map}
use Rattle.rlc_pdu.specs.declared.constants.TheConstants.{AM_MODULUS, AM_WINDOW_SIZE}
use Rattle.rlc_pdu.specs.declared.pdu.Nack.{Nack}
use Rattle.rlc_pdu.specs.Pdus.{StatusPdu}
use Rattle.rlc_am_tx_window.specs.Window.{TxWindow, next}
use Rattle.rlc_am_tx.specs.Machine.{State}
use Rattle.journal_account.specs.declared.entry.StatusEntry.{StatusEntry}
use Rattle.journal_account.specs.Entries.{names_number}
use Rattle.law_account.specs.Heard.{IsHeard}

-- an entry as it is written
abbrev pub nack_with : StatusEntry → Nack
nack_with m = record { sn = m.number % AM_MODULUS; part = m.part }

-- a number at or below VT(S), so near to it that no other such number has its SN
pub record IsNear (w : TxWindow) (n : ℕ) : Type 0 where
  pub known : n ≤ next w
  pub young : next w < n + AM_MODULUS

-- ACK_SN and the NACK_SNs are those of the ACK and of the entries, in their order, and these are
-- near
pub record HasTrueNumbers (w : TxWindow) (status : StatusPdu) (ack : ℕ)
    (entries : List StatusEntry) : Type 0 where
  pub window : next w ≤ w.base + AM_WINDOW_SIZE
  pub ack_sn : status.ack ≡ ack % AM_MODULUS
  pub nack_sns : status.nacks ≡ map nack_with entries
  pub ack_near : IsNear w ack
  pub near : (n : ℕ) → names_number entries n ≡ true → IsNear w n

abbrev pub TrueStatusesAreHeard : Type 0
TrueStatusesAreHeard = (s : State) (status : StatusPdu) (ack : ℕ) (entries : List StatusEntry)
    → HasTrueNumbers s.window status ack entries → IsHeard s status ack entries

-- they are the only ones that a STATUS can have there
abbrev pub TrueNumbersAreOne : Type 0
TrueNumbersAreOne = (w : TxWindow) (status : StatusPdu) (ack other : ℕ)
    (entries others : List StatusEntry) → HasTrueNumbers w status ack entries
    → HasTrueNumbers w status other others → (ack ≡ other) × (entries ≡ others)
