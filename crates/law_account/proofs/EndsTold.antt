-- Each step at an end of a flow, with its events.
use Rattle.std.proofs.Common.{◌≡◌, ℕ, ◌+◌, Bool, true, false, if◌then◌else◌, List, ◌∷◌, Option, Some, None}
use Rattle.std.proofs.Common.{length, Ok, refl, ap, sym, subst, arith}
use Rattle.l2_num.specs.Timers.{runs}
use Rattle.rlc_pdu.specs.declared.Expired.{Expired}
use Rattle.rlc_pdu.specs.declared.Expired.TheVariants.{Done, NotRunning}
use Rattle.rlc_pdu.specs.Pdus.{AmdPdu, Payload}
use Rattle.rlc_pdu.specs.Reading.{am_at}
use Rattle.rlc_am_rx_window.specs.Piece.{piece_of, end_of, octets_in, so_of}
use Rattle.rlc_am_rx.specs.Machine.{arrived, turned, after_reorder, reorder_answer}
use Rattle.rlc_am_rx.specs.State.{State as Receiver}
use Rattle.rlc_am_tx.specs.declared.turn.Turn.{Turn}
use Rattle.rlc_am_tx.specs.declared.turn.Turn.TheVariants as turns
use Rattle.rlc_am_tx.specs.Machine.{State as Sender, turn}
use Rattle.journal_account.specs.FlowAccount.{account_of}
use Rattle.journal_account.specs.FlowArrivals.{FlowArrivals, with_arrival, reorder_expired}
use Rattle.journal_account.specs.FlowEvents.{FlowEvent, OctetsArrived, ReorderStarted, ReorderExpired, PollExpired}
use Rattle.journal_account.specs.FlowEvents.{IsHistory, IsPossible, StatusHeard}
use Rattle.journal_account.proofs.Accounts.{accounts_are_true}
use Rattle.law_rlc.specs.AmSender.Run.{Call as SenderCall, Offer, Take, Status, Tick, Expire, Settle, Confirm}
use Rattle.law_rlc.specs.AmReceiver.Run.{Arrive, Up, Write, ExpireReorder, ExpireProhibit}
use Rattle.law_rlc.specs.AmReceiver.Run.{TickReorder, TickProhibit}
use Rattle.law_rlc.specs.AmPair.Flow.{Copy, Flow, sender, receiver, goes, am_rlc_outset}
use Rattle.law_rlc.proofs.AmArrival.Coming.{cells_are}
use Rattle.law_rlc.specs.AmPair.Statuses.{reduced}
use Rattle.law_rlc.proofs.AmPair.Laws.{sound}
use Rattle.law_rlc.proofs.AmPair.Sound.{IsTrueCopy, IsTrueReport, IsSound}
use Rattle.law_account.specs.EndsTold.{AreEndsOf, EndsBegin, SendersGoOn, ReceiversGoOn, CopiesGoOn}
use Rattle.law_account.specs.EndsTold.{StatusesGoOn, EndsReport}
use Rattle.law_account.specs.FlowHistory.{with_start, with_expiry, with_data}
use Rattle.law_account.specs.FlowReceiving.{IsReceiverOf, IsAtSender, AreBrought}
use Rattle.law_account.specs.History.{turn_told, IsTold, with_told, Follows}
use Rattle.law_account.specs.LateStatus.{entries_of}
use Rattle.law_account.specs.Receiving.{IsReceiverAccounted, started_in, expired_in, with_pdu}
use Rattle.law_account.proofs.FlowReceiving.{copy_accounted, sender_events_awaited, histories_tell_reports}
use Rattle.law_account.proofs.FlowReceiving.{place_of}
use Rattle.law_account.proofs.FlowSizes.{sizes_alike}
use Rattle.law_account.proofs.History.{outset_follows, calls_follow, arrivals_follow}
use Rattle.law_account.proofs.LateStatus.{heard_late}
use Rattle.law_account.proofs.Receiving.{receiver_outset}
use Rattle.law_account.proofs.ReceivingExpired.{reordering_accounted}

pub ends_begin : EndsBegin
ends_begin sending receiving = record { follows = outset_follows sending; hears = receiver_outset receiving }

-- ---- a call of the sender

abbrev AllAtSender : Option FlowEvent → Type 0
AllAtSender None = Unit {0}
AllAtSender (Some e) = IsAtSender e

turn_at_sender : (t : Turn) (s : Sender) (size : ℕ) → AllAtSender (turn_told t s size)
turn_at_sender turns.Whole s size = tt
turn_at_sender turns.Part s size = tt
turn_at_sender turns.New s size = tt
turn_at_sender turns.Idle s size = tt
turn_at_sender turns.Stopped s size = tt
turn_at_sender turns.Small s size = tt
turn_at_sender turns.Shut s size = tt
turn_at_sender turns.Held s size = tt

expiry_at_sender : (b more : Bool) → AllAtSender (if b then Some (PollExpired more) else None)
expiry_at_sender true more = tt
expiry_at_sender false more = tt

call_at_sender : (s : Sender) (c : SenderCall) (o : Option FlowEvent) → IsTold s c o → AllAtSender o
call_at_sender s (Offer sdu) o t = subst AllAtSender (sym t.1) tt
call_at_sender s (Take size held more) o t =
    subst AllAtSender (sym t) (turn_at_sender (turn s size held more) s size)
call_at_sender s (Status status) o t = subst AllAtSender (sym t.3) tt
call_at_sender s Tick o t = subst AllAtSender (sym t) tt
call_at_sender s (Expire more) o t = subst AllAtSender (sym t) (expiry_at_sender (runs s.polls.timer) more)
call_at_sender s (Settle more) o t = subst AllAtSender (sym t) tt
call_at_sender s Confirm o t = subst AllAtSender (sym t) tt

sent_heard : (most : ℕ) (o : Option FlowEvent) (es : List FlowEvent) (rx : Receiver) → AllAtSender o
    → IsHistory (with_told o es) → IsReceiverOf most es rx → IsReceiverOf most (with_told o es) rx
sent_heard most None es rx at h r = r
sent_heard most (Some e) es rx at h r = sender_events_awaited most es rx e at h.0 r

pub senders_go_on : SendersGoOn
senders_go_on most es tx rx c o t ends =
    let f = calls_follow most es tx c o t ends.follows in
    record { follows = f; hears = sent_heard most o es rx (call_at_sender tx c o t) f.history ends.hears }

-- ---- t-Reordering

start_is : (most : ℕ) (b : Bool) (es : List FlowEvent) (a : FlowArrivals) → (account_of most es).arrivals ≡ a
    → (account_of most (with_start b es)).arrivals ≡ started_in b a
start_is most true es a e = ap (started_in true) e
start_is most false es a e = e

expiry_is : (most : ℕ) (x : Expired) (es : List FlowEvent)
    → (account_of most (with_expiry x es)).arrivals ≡ expired_in x (account_of most es).arrivals
expiry_is most NotRunning es = refl
expiry_is most (Done again) es =
    start_is most again (ReorderExpired ∷ es) (reorder_expired (account_of most es).arrivals) refl

start_follows : (most : ℕ) (b : Bool) (es : List FlowEvent) (tx : Sender) → Follows most es tx
    → Follows most (with_start b es) tx
start_follows most true es tx f = arrivals_follow most es tx ReorderStarted tt tt f
start_follows most false es tx f = f

expiry_follows : (most : ℕ) (x : Expired) (es : List FlowEvent) (tx : Sender) → Follows most es tx
    → Follows most (with_expiry x es) tx
expiry_follows most NotRunning es tx f = f
expiry_follows most (Done again) es tx f =
    start_follows most again (ReorderExpired ∷ es) tx (arrivals_follow most es tx ReorderExpired tt tt f)

-- ---- a call of the receiver

pub receivers_go_on : ReceiversGoOn
receivers_go_on most es tx rx (Arrive pdu) none ends = absurd none
receivers_go_on most es tx rx Up none ends = record { follows = ends.follows; hears = ends.hears }
receivers_go_on most es tx rx Write none ends = record { follows = ends.follows; hears = ends.hears }
receivers_go_on most es tx rx ExpireReorder none ends = record {
  follows = expiry_follows most (reorder_answer rx.mark rx) es tx ends.follows;
  hears = subst (IsReceiverAccounted (after_reorder rx.mark rx)) (sym (expiry_is most (reorder_answer rx.mark rx) es))
      (reordering_accounted rx (account_of most es).arrivals ends.hears);
}
receivers_go_on most es tx rx ExpireProhibit none ends = record { follows = ends.follows; hears = ends.hears }
receivers_go_on most es tx rx TickReorder none ends = record { follows = ends.follows; hears = ends.hears }
receivers_go_on most es tx rx TickProhibit none ends = record { follows = ends.follows; hears = ends.hears }

-- ---- a data PDU comes

pub copy_goes_on : (f : Flow) (most : ℕ) (es : List FlowEvent) (c : Copy) (p : AmdPdu) → IsSound f
    → IsTrueCopy (sender f).past.sent c → am_at c.octets ≡ Ok (Payload p)
    → AreEndsOf most es (sender f).state (receiver f).state
    → AreEndsOf most (with_data (receiver f).state c.number (Ok (Payload p)) es) (sender f).state
    (arrived (receiver f).state p)
copy_goes_on f most es c p s t read ends = record {
  follows = start_follows most (turned (receiver f).state p).started (e ∷ es) (sender f).state
      (arrivals_follow most es (sender f).state e tt possible ends.follows);
  hears = subst (IsReceiverAccounted (arrived (receiver f).state p)) (sym account_is) brought.accounted;
}
  where
    a : FlowArrivals
    a = (account_of most es).arrivals

    e : FlowEvent
    e = OctetsArrived c.number (so_of p.segment) (so_of p.segment + octets_in p.elements)

    brought : AreBrought (receiver f).state p c.number a
    brought = copy_accounted f most (account_of most es).sending a c p s t read ends.follows.window
        (sizes_alike most es ends.follows.history) ends.hears

    possible : IsPossible e es
    possible =
        let next = (accounts_are_true most es ends.follows.history).arrivals.next in
        let cells = cells_are p in
        (omega (arith, brought.written, next), omega (arith, brought.some, cells))

    account_is : (account_of most (with_start (turned (receiver f).state p).started (e ∷ es))).arrivals
        ≡ with_pdu (receiver f).state p c.number a
    account_is =
        start_is most (turned (receiver f).state p).started (e ∷ es)
        (with_arrival c.number (piece_of p).so (end_of (piece_of p)) a)
        (ap (λ (n : ℕ). with_arrival c.number (so_of p.segment) (so_of p.segment + n) a) (sym (cells_are p)))

pub copies_go_on : CopiesGoOn
copies_go_on sending receiving steps given most es k c p at read ends =
    let f = goes steps (am_rlc_outset sending receiving) in
    let s : IsSound f = sound sending receiving steps given in
    copy_goes_on f most es c p s (place_of (IsTrueCopy (sender f).past.sent) f.copies k c s.copies at) read ends

-- ---- a STATUS comes

pub statuses_go_on : StatusesGoOn
statuses_go_on sending receiving steps given most es k r at ends =
    let f = goes steps (am_rlc_outset sending receiving) in
    let s : IsSound f = sound sending receiving steps given in
    let t = place_of (IsTrueReport (receiver f).kept (length (sender f).past.sent) f.busy) f.reports k r s.reports at in
    senders_go_on most es (sender f).state (receiver f).state (Status (reduced r))
    (Some (StatusHeard r.ack (entries_of r))) (r.ack, entries_of r, (heard_late f s r t).heard, refl) ends

-- ---- a STATUS is written

pub ends_report : EndsReport
ends_report most es tx rx size ends = histories_tell_reports most es rx size ends.follows.history ends.hears
