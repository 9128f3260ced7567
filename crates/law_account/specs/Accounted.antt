-- What an acknowledged sender's window keeps of a number, and what the account of its flow keeps of
-- it (TS 36.322 5.2.1).
use Rattle.std.specs.Prelude.{◌≡◌, ◌≤◌, ◌<◌, ℕ, ◌+◌, Bool, false, not, List, [], ◌∷◌, ◌++◌, length}
use Rattle.std.specs.Prelude.{None}
use Rattle.std.specs.List.{sum}
use Rattle.l2_types.specs.declared.config.AmTxConfig.{AmTxConfig}
use Rattle.rlc_pdu.specs.Runs.{AreAscending, has}
use Rattle.rlc_am_tx_window.specs.Sent.{Sent, fresh, rested, sent_part}
use Rattle.rlc_am_tx_window.specs.Window.{TxWindow, slot_at, with_slot}
use Rattle.rlc_am_tx.specs.Machine.{start}
use Rattle.journal_account.specs.FlowSending.{SentNumber, FlowSending, number_at, none_sent}
use Rattle.journal_account.specs.FlowSending.{with_sent, with_resent}
use Rattle.law_rlc.specs.AmSender.Namings.{count_of}

-- the lengths of its elements make up the field, no STATUS is being read, and the places ascend;
-- an octet rests exactly where it doesn't wait, none beyond the field waits, and RETX_COUNT tells
-- the namings that counted
pub record IsAccounted (most : ℕ) (h : Sent) (n : SentNumber) : Type 0 where
  pub size : length h.field ≡ n.size
  pub whole : sum h.lens ≡ length h.field
  pub acked : h.acked ≡ n.acked
  pub plain : h.named ≡ None
  pub runs : 0 < n.size → AreAscending 0 h.resting
  pub ascends : AreAscending 0 n.waiting
  pub rests : (i : ℕ) → i < n.size → has h.resting i ≡ not (has n.waiting i)
  pub within : (i : ℕ) → n.size ≤ i → has n.waiting i ≡ false
  pub count : h.retransmissions ≡ count_of n.namings most

-- the numbers from VT(A) below VT(S), one by one
pub record AreAccounted (most : ℕ) (w : TxWindow) (f : FlowSending) : Type 0 where
  pub base : w.base ≡ f.base
  pub most_is : f.most ≡ most
  pub length_is : length w.slots ≡ length f.numbers
  pub numbers : (k : ℕ) → k < length w.slots
      → IsAccounted most (slot_at w.slots k) (number_at f.numbers k)

-- nothing was written yet
abbrev pub OutsetIsAccounted : Type 0
OutsetIsAccounted = (config : AmTxConfig)
    → AreAccounted config.max_retx (start config).window (none_sent config.max_retx)

-- a number is written
abbrev pub WritesAreAccounted : Type 0
WritesAreAccounted = (most : ℕ) (w : TxWindow) (f : FlowSending) (field lens : List ℕ)
    (begins ends : Bool) (place : ℕ) → sum lens ≡ length field → AreAccounted most w f
    → AreAccounted most
    (record w { slots = w.slots ++ fresh field lens begins ends place ∷ [] })
    (with_sent (length field) f)

-- a PDU is sent again
abbrev pub ResendsAreAccounted : Type 0
ResendsAreAccounted = (most : ℕ) (w : TxWindow) (f : FlowSending) (at : ℕ) → at < length w.slots
    → 0 < length (slot_at w.slots at).field → AreAccounted most w f
    → AreAccounted most (with_slot w at (rested (slot_at w.slots at)))
    (with_resent (w.base + at) 0 (length (slot_at w.slots at).field) f)

-- a segment of it is
abbrev pub SegmentsAreAccounted : Type 0
SegmentsAreAccounted = (most : ℕ) (w : TxWindow) (f : FlowSending) (at from to : ℕ)
    → at < length w.slots → from < to → AreAccounted most w f
    → AreAccounted most (with_slot w at (sent_part (slot_at w.slots at) from to))
    (with_resent (w.base + at) from to f)
