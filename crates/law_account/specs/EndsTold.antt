-- The sender and the receiver of a flow beside its history, step by step: for a walk that knows the
-- states of both ends, and that they are those of a flow (docs/laws/ACCOUNT.md; TS 36.322 5.1.3,
-- 5.2).
use Rattle.std.specs.Prelude.{◌≡◌, ℕ, List, [], ◌∷◌, Option, Some, Ok, slice_get}
use Rattle.l2_types.specs.declared.config.AmTxConfig.{AmTxConfig}
use Rattle.l2_types.specs.declared.AmRxConfig.{AmRxConfig}
use Rattle.rlc_pdu.specs.Pdus.{AmdPdu, Payload}
use Rattle.rlc_pdu.specs.Reading.{am_at}
use Rattle.rlc_am_rx.specs.Machine.{arrived}
use Rattle.rlc_am_rx.specs.State.{State as Receiver, fresh}
use Rattle.rlc_am_rx.specs.Status.{ack}
use Rattle.rlc_am_tx.specs.Machine.{State as Sender, start}
use Rattle.journal_account.specs.FlowEvents.{FlowEvent, StatusHeard}
use Rattle.journal_account.specs.TrueStatus.{IsTrueStatus}
use Rattle.law_rlc.specs.AmSender.Run.{Call as SenderCall, Status, after}
use Rattle.law_rlc.specs.AmReceiver.Run.{Call as ReceiverCall, Arrive, Up, Write, ExpireReorder}
use Rattle.law_rlc.specs.AmReceiver.Run.{ExpireProhibit, TickReorder, TickProhibit, state_after}
use Rattle.law_rlc.specs.AmPair.Flow.{Copy, Report, sender, receiver}
use Rattle.law_rlc.specs.AmPair.Statuses.{reduced}
use Rattle.law_rlc.specs.AmPair.Arrives.{Always}
use Rattle.law_account.specs.FlowHistory.{with_hearing, with_data}
use Rattle.law_account.specs.FlowReceiving.{IsReceiverOf}
use Rattle.law_account.specs.History.{IsTold, with_told, Follows}
use Rattle.law_account.specs.LateStatus.{entries_of}
use Rattle.law_account.specs.Reporting.{reported}

pub record AreEndsOf (most : ℕ) (es : List FlowEvent) (tx : Sender) (rx : Receiver) : Type 0 where
  pub follows : Follows most es tx
  pub hears : IsReceiverOf most es rx

-- as a life begins
abbrev pub EndsBegin : Type 0
EndsBegin = (sending : AmTxConfig) (receiving : AmRxConfig)
    → AreEndsOf sending.max_retx [] (start sending) (fresh receiving)

-- a call of the sender, told by its event
abbrev pub SendersGoOn : Type 0
SendersGoOn = (most : ℕ) (es : List FlowEvent) (tx : Sender) (rx : Receiver) (c : SenderCall)
    (o : Option FlowEvent) → IsTold tx c o → AreEndsOf most es tx rx
    → AreEndsOf most (with_told o es) (after tx c) rx

-- a call of the receiver that brings no PDU
abbrev pub BringsNone : ReceiverCall → Type 0
BringsNone (Arrive pdu) = ⊥
BringsNone Up = Unit {0}
BringsNone Write = Unit {0}
BringsNone ExpireReorder = Unit {0}
BringsNone ExpireProhibit = Unit {0}
BringsNone TickReorder = Unit {0}
BringsNone TickProhibit = Unit {0}

abbrev pub ReceiversGoOn : Type 0
ReceiversGoOn = (most : ℕ) (es : List FlowEvent) (tx : Sender) (rx : Receiver) (c : ReceiverCall)
    → BringsNone c → AreEndsOf most es tx rx
    → AreEndsOf most (with_hearing rx c es) tx (state_after rx c)

-- in a flow, a data PDU that is under way comes
abbrev pub CopiesGoOn : Type 0
CopiesGoOn = Always (λ f. (most : ℕ) (es : List FlowEvent) (k : ℕ) (c : Copy) (p : AmdPdu)
    → slice_get f.copies k ≡ Some c → am_at c.octets ≡ Ok (Payload p)
    → AreEndsOf most es (sender f).state (receiver f).state
    → AreEndsOf most (with_data (receiver f).state c.number (Ok (Payload p)) es) (sender f).state
    (arrived (receiver f).state p))

-- in a flow, a STATUS that is under way comes, which speaks of the numbers that it was written for
abbrev pub StatusesGoOn : Type 0
StatusesGoOn = Always (λ f. (most : ℕ) (es : List FlowEvent) (k : ℕ) (r : Report)
    → slice_get f.reports k ≡ Some r → AreEndsOf most es (sender f).state (receiver f).state
    → AreEndsOf most (StatusHeard r.ack (entries_of r) ∷ es)
    (after (sender f).state (Status (reduced r))) (receiver f).state)

-- a STATUS of any size is true of the history, with the true numbers of its ACK and its entries
abbrev pub EndsReport : Type 0
EndsReport = (most : ℕ) (es : List FlowEvent) (tx : Sender) (rx : Receiver) (size : ℕ)
    → AreEndsOf most es tx rx → IsTrueStatus es (ack rx size) (reported rx size)
