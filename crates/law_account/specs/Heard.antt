-- A STATUS as the sender reads it, and as the account hears it (TS 36.322 5.2.1).
use Rattle.std.specs.Prelude.{◌≡◌, ◌≤◌, ◌<◌, ℕ, ◌+◌, ◌==◌, List, [], ◌∷◌, length}
use Rattle.std.specs.Prelude.{nat_lt}
use Rattle.rlc_pdu.specs.declared.pdu.Nack.{Nack}
use Rattle.rlc_pdu.specs.Pdus.{StatusPdu}
use Rattle.rlc_am_tx_window.specs.Window.{TxWindow, offset_of}
use Rattle.rlc_am_tx.specs.Machine.{State, is_ignored, after_status}
use Rattle.journal_account.specs.declared.entry.StatusEntry.{StatusEntry}
use Rattle.journal_account.specs.FlowSending.{FlowSending, with_status}
use Rattle.law_account.specs.Accounted.{AreAccounted}

-- an entry has the range of the one that was written, and of the numbers in the window just its
-- number
pub record IsTied (w : TxWindow) (n : Nack) (m : StatusEntry) : Type 0 where
  pub part : m.part ≡ n.part
  pub number : (k : ℕ) → k < length w.slots
      → (m.number == w.base + k) ≡ (offset_of w.base n.sn == k)

-- entries, one by one
abbrev pub AreTied : TxWindow → List Nack → List StatusEntry → Type 0
AreTied w [] [] = Unit {0}
AreTied w [] (m ∷ ms) = ⊥
AreTied w (n ∷ ns) [] = ⊥
AreTied w (n ∷ ns) (m ∷ ms) = IsTied w n m × AreTied w ns ms

-- a STATUS is ignored exactly where its ACK lies below VT(A), else its ACK_SN stands for its ACK,
-- and its entries are tied
pub record IsHeard (s : State) (status : StatusPdu) (ack : ℕ) (entries : List StatusEntry)
    : Type 0 where
  pub ignored : is_ignored s status.ack ≡ nat_lt ack s.window.base
  pub ack_is : s.window.base ≤ ack → s.window.base + offset_of s.window.base status.ack ≡ ack
  pub tied : s.window.base ≤ ack → AreTied s.window status.nacks entries

abbrev pub StatusIsAccounted : Type 0
StatusIsAccounted = (s : State) (f : FlowSending) (status : StatusPdu) (ack : ℕ)
    (entries : List StatusEntry) → IsHeard s status ack entries
    → AreAccounted s.config.max_retx s.window f
    → AreAccounted s.config.max_retx (after_status s status).window (with_status ack entries f)
