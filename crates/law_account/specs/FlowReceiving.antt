-- A receiver along the history of its flow: what happens at the sender, a data PDU that is under
-- way and comes, and the STATUS that is written (docs/laws/ACCOUNT.md; TS 36.322 5.1.3.2, 5.2.3).
use Rattle.std.specs.Prelude.{◌≡◌, ℕ, ◌-◌, ◌<◌, ◌≤◌, List, ◌∷◌, Some, Ok, slice_get}
use Rattle.rlc_pdu.specs.Pdus.{AmdPdu, Payload}
use Rattle.rlc_pdu.specs.Reading.{am_at}
use Rattle.rlc_am_rx_window.specs.Piece.{piece_of, end_of}
use Rattle.rlc_am_rx.specs.State.{State}
use Rattle.rlc_am_rx.specs.Machine.{arrived}
use Rattle.rlc_am_rx.specs.Status.{ack}
use Rattle.journal_account.specs.FlowEvents.{FlowEvent}
use Rattle.journal_account.specs.FlowEvents.{OctetsArrived, ReorderStarted, ReorderExpired}
use Rattle.journal_account.specs.FlowEvents.{IsPossible, IsHistory}
use Rattle.journal_account.specs.FlowArrivals.{FlowArrivals, next_in, field_at}
use Rattle.journal_account.specs.FlowSending.{FlowSending, sent_in, number_at}
use Rattle.journal_account.specs.FlowAccount.{account_of}
use Rattle.journal_account.specs.TrueStatus.{IsTrueStatus}
use Rattle.law_rlc.specs.AmPair.Flow.{Copy, sender, receiver}
use Rattle.law_rlc.specs.AmPair.Arrives.{Always}
use Rattle.law_account.specs.Accounted.{AreAccounted}
use Rattle.law_account.specs.Receiving.{IsReceiverAccounted, with_pdu}
use Rattle.law_account.specs.Reporting.{reported}

-- what a history of its flow says is what the receiver keeps
abbrev pub IsReceiverOf : ℕ → List FlowEvent → State → Type 0
IsReceiverOf most es s = IsReceiverAccounted s (account_of most es).arrivals

-- ---- at the sender

abbrev pub IsAtSender : FlowEvent → Type 0
IsAtSender (OctetsArrived n from to) = ⊥
IsAtSender ReorderStarted = ⊥
IsAtSender ReorderExpired = ⊥
IsAtSender other = Unit {0}

abbrev pub SenderEventsAreAwaited : Type 0
SenderEventsAreAwaited = (most : ℕ) (es : List FlowEvent) (s : State) (e : FlowEvent)
    → IsAtSender e → IsPossible e es → IsReceiverOf most es s → IsReceiverOf most (e ∷ es) s

-- ---- a data PDU comes

-- both sides of an account have come to the same VT(S), and a number that both keep is as long
pub record AreSizesAlike (s : FlowSending) (a : FlowArrivals) : Type 0 where
  pub next : sent_in s ≡ next_in a
  pub sizes : (n : ℕ) → s.base ≤ n → a.front ≤ n → n < next_in a
      → (number_at s.numbers (n - s.base)).size ≡ (field_at a.fields (n - a.front)).size

abbrev pub AccountsHaveSizesAlike : Type 0
AccountsHaveSizesAlike = (most : ℕ) (es : List FlowEvent) → IsHistory es
    → AreSizesAlike (account_of most es).sending (account_of most es).arrivals

-- it brings octets of a number that was written, to both alike
pub record AreBrought (s : State) (p : AmdPdu) (n : ℕ) (a : FlowArrivals) : Type 0 where
  pub written : n < next_in a
  pub some : (piece_of p).so < end_of (piece_of p)
  pub accounted : IsReceiverAccounted (arrived s p) (with_pdu s p n a)

-- where the sender and the receiver are accounted, of the number that the sender gave the PDU
abbrev pub CopiesAreAccounted : Type 0
CopiesAreAccounted = Always (λ f. (most : ℕ) (s : FlowSending) (a : FlowArrivals) (k : ℕ) (c : Copy)
    (p : AmdPdu) → slice_get f.copies k ≡ Some c → am_at c.octets ≡ Ok (Payload p)
    → AreAccounted most (sender f).state.window s → AreSizesAlike s a
    → IsReceiverAccounted (receiver f).state a → AreBrought (receiver f).state p c.number a)

-- ---- a STATUS is written

-- with true numbers it is true of the history, whatever its size
abbrev pub HistoriesTellReports : Type 0
HistoriesTellReports = (most : ℕ) (es : List FlowEvent) (s : State) (size : ℕ) → IsHistory es
    → IsReceiverOf most es s → IsTrueStatus es (ack s size) (reported s size)
