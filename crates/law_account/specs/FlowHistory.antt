-- The history of a flow, by the steps of both its ends and of what is under way between them
-- (docs/laws/ACCOUNT.md; TS 36.322 5.1.3, 5.2, 7.1).
use Rattle.std.specs.Prelude.{ℕ, ◌+◌, Bool, if◌then◌else◌, List, [], ◌∷◌, Option, Some, None}
use Rattle.std.specs.Prelude.{Result, Ok, Err, slice_get}
use Rattle.l2_num.specs.Least.{IsLeast}
use Rattle.l2_types.specs.declared.config.AmTxConfig.{AmTxConfig}
use Rattle.l2_types.specs.declared.AmRxConfig.{AmRxConfig}
use Rattle.rlc_pdu.specs.declared.Expired.{Expired}
use Rattle.rlc_pdu.specs.declared.Expired.TheVariants.{Done, NotRunning}
use Rattle.rlc_pdu.specs.declared.fault.RlcRefusal.{RlcRefusal}
use Rattle.rlc_pdu.specs.Pdus.{AcknowledgedPdu, Payload, Status as Control}
use Rattle.rlc_pdu.specs.Reading.{am_at}
use Rattle.rlc_am_rx_window.specs.Piece.{octets_in, so_of}
use Rattle.rlc_am_rx.specs.Machine.{turned, reorder_answer}
use Rattle.rlc_am_rx.specs.State.{State as Receiver}
use Rattle.rlc_am_tx.specs.Machine.{State as Sender}
use Rattle.journal_account.specs.Arrived.{is_complete_in}
use Rattle.journal_account.specs.FlowEvents.{FlowEvent, OctetsArrived, ReorderStarted}
use Rattle.journal_account.specs.FlowEvents.{ReorderExpired, StatusHeard}
use Rattle.law_rlc.specs.AmSender.Run.{Status}
use Rattle.law_rlc.specs.AmReceiver.Run.{Call, Arrive, Up, Write, ExpireReorder, ExpireProhibit}
use Rattle.law_rlc.specs.AmReceiver.Run.{TickReorder, TickProhibit}
use Rattle.law_rlc.specs.AmPair.Flow.{Copy, Report, Flow, Step, Sends, Receives, Reports, DataComes}
use Rattle.law_rlc.specs.AmPair.Flow.{StatusComes, DataGoes, StatusGoes, Passes, sender, receiver}
use Rattle.law_rlc.specs.AmPair.Flow.{happens, goes, am_rlc_outset}
use Rattle.law_rlc.specs.AmPair.Given.{IsGiven, AreGiven}
use Rattle.law_account.specs.History.{call_told, with_told, Follows, limit_told, IsLimitOf}
use Rattle.law_account.specs.LateStatus.{entries_of}

-- ---- how a step is told, behind a history

-- t-Reordering starts
abbrev pub with_start : Bool → List FlowEvent → List FlowEvent
with_start started es = if started then ReorderStarted ∷ es else es

-- it expires, and starts again or not
abbrev pub with_expiry : Expired → List FlowEvent → List FlowEvent
with_expiry NotRunning es = es
with_expiry (Done again) es = with_start again (ReorderExpired ∷ es)

abbrev pub with_hearing : Receiver → Call → List FlowEvent → List FlowEvent
with_hearing s (Arrive pdu) es = es
with_hearing s Up es = es
with_hearing s Write es = es
with_hearing s ExpireReorder es = with_expiry (reorder_answer s.mark s) es
with_hearing s ExpireProhibit es = es
with_hearing s TickReorder es = es
with_hearing s TickProhibit es = es

-- octets of a number come, as the PDU says that brings them
abbrev pub with_data : Receiver → ℕ → Result AcknowledgedPdu RlcRefusal → List FlowEvent
    → List FlowEvent
with_data s number (Ok (Payload pdu)) es = with_start (turned s pdu).started
    (OctetsArrived number (so_of pdu.segment) (so_of pdu.segment + octets_in pdu.elements) ∷ es)
with_data s number (Ok (Control pdu)) es = es
with_data s number (Err refused) es = es

abbrev pub with_copy : Receiver → Option Copy → List FlowEvent → List FlowEvent
with_copy s None es = es
with_copy s (Some c) es = with_data s c.number (am_at c.octets) es

-- a STATUS comes, with the numbers that it was written for
abbrev pub with_report : Option Report → List FlowEvent → List FlowEvent
with_report None es = es
with_report (Some r) es = StatusHeard r.ack (entries_of r) ∷ es

abbrev pub with_step : Flow → Step → List FlowEvent → List FlowEvent
with_step f (Sends c) es = with_told (call_told (sender f).state c) es
with_step f (Receives c) es = with_hearing (receiver f).state c es
with_step f (Reports size octets) es = es
with_step f (DataComes k) es = with_copy (receiver f).state (slice_get f.copies k) es
with_step f (StatusComes k) es = with_report (slice_get f.reports k) es
with_step f (DataGoes k) es = es
with_step f (StatusGoes k) es = es
with_step f Passes es = es

abbrev pub with_steps : List Step → Flow → List FlowEvent → List FlowEvent
with_steps [] f es = es
with_steps (s ∷ ss) f es = with_steps ss (happens f s) (with_step f s es)

-- ---- the law

-- what the sender keeps is what the history says, and VR(R) is the least number that isn't complete
-- by it
pub record IsHistoryOf (f : Flow) (es : List FlowEvent) : Type 0 where
  pub follows : Follows f.sending.max_retx es (sender f).state
  pub front : IsLeast (is_complete_in es) 0 (receiver f).state.window.front

abbrev pub FlowsAreTold : Type 0
FlowsAreTold = (sending : AmTxConfig) (receiving : AmRxConfig) (steps : List Step)
    → AreGiven (am_rlc_outset sending receiving) steps
    → IsHistoryOf (goes steps (am_rlc_outset sending receiving))
    (with_steps steps (am_rlc_outset sending receiving) [])

-- ---- the limit

-- the SN with which a step tells the limit
abbrev pub limit_read : Sender → Result AcknowledgedPdu RlcRefusal → Option ℕ
limit_read s (Ok (Control status)) = limit_told s (Status status)
limit_read s (Ok (Payload pdu)) = None
limit_read s (Err refused) = None

abbrev pub limit_heard_in : Sender → Option Report → Option ℕ
limit_heard_in s None = None
limit_heard_in s (Some r) = limit_read s (am_at r.octets)

abbrev pub limit_in : Flow → Step → Option ℕ
limit_in f (Sends c) = limit_told (sender f).state c
limit_in f (Receives c) = None
limit_in f (Reports size octets) = None
limit_in f (DataComes k) = None
limit_in f (StatusComes k) = limit_heard_in (sender f).state (slice_get f.reports k)
limit_in f (DataGoes k) = None
limit_in f (StatusGoes k) = None
limit_in f Passes = None

-- it is that of the number at which the flow fails with the step, behind a history
abbrev pub TellsLimits : Flow → List FlowEvent → Type 0
TellsLimits f es = (s : Step) → IsGiven f s
    → IsLimitOf f.sending.max_retx es (with_step f s es) (limit_in f s)

abbrev pub FlowsTellLimits : Type 0
FlowsTellLimits = (sending : AmTxConfig) (receiving : AmRxConfig) (steps : List Step)
    → AreGiven (am_rlc_outset sending receiving) steps
    → TellsLimits (goes steps (am_rlc_outset sending receiving))
    (with_steps steps (am_rlc_outset sending receiving) [])
