-- A STATUS is ignored by its sender exactly where it is by the history.
use Rattle.std.proofs.Common.{◌≡◌, ℕ, zero, suc, ◌+◌, Bool, true, false, if◌then◌else◌, List, [], ◌∷◌, length}
use Rattle.std.proofs.Common.{slice_get, Option, Some, None, Result, Ok, Err, nat_lt, refl, ap, sym, subst, ◌∙◌}
use Rattle.std.specs.List.{AllByRecursion}
use Rattle.l2_num.specs.Timers.{runs}
use Rattle.rlc_pdu.specs.declared.Expired.{Expired}
use Rattle.rlc_pdu.specs.declared.Expired.TheVariants.{Done, NotRunning}
use Rattle.rlc_pdu.specs.declared.fault.RlcRefusal.{RlcRefusal}
use Rattle.rlc_pdu.specs.Pdus.{AcknowledgedPdu, Payload, Status as Control}
use Rattle.rlc_pdu.specs.Reading.{am_at}
use Rattle.rlc_am_rx_window.specs.Piece.{octets_in, so_of}
use Rattle.rlc_am_rx.specs.State.{State as Receiver}
use Rattle.rlc_am_rx.specs.Machine.{turned, reorder_answer}
use Rattle.rlc_am_tx.specs.declared.turn.Turn.{Turn}
use Rattle.rlc_am_tx.specs.declared.turn.Turn.TheVariants as turns
use Rattle.rlc_am_tx.specs.Machine.{State, turn, is_ignored}
use Rattle.journal_account.specs.Acked.{ignored_in}
use Rattle.journal_account.specs.FlowEvents.{FlowEvent, OctetsArrived, ReorderExpired, StatusHeard, PollExpired}
use Rattle.journal_account.specs.FlowEvents.{IsHistory}
use Rattle.journal_account.specs.FlowAccount.{FlowAccount, account_of}
use Rattle.journal_account.proofs.Accounts.{accounts_are_true}
use Rattle.law_rlc.specs.AmSender.Run.{Call as SenderCall, Offer, Take, Status, Tick, Expire, Settle, Confirm}
use Rattle.law_rlc.specs.AmReceiver.Run.{Call, Arrive, Up, Write, ExpireReorder, ExpireProhibit, TickReorder}
use Rattle.law_rlc.specs.AmReceiver.Run.{TickProhibit}
use Rattle.law_rlc.specs.AmPair.Flow.{Copy, Report, Flow, Step, Sends, Receives, Reports, DataComes, StatusComes}
use Rattle.law_rlc.specs.AmPair.Flow.{DataGoes, StatusGoes, Passes, sender, receiver, goes, am_rlc_outset}
use Rattle.law_rlc.specs.AmPair.Given.{IsGiven}
use Rattle.law_rlc.specs.AmPair.Statuses.{reduced}
use Rattle.law_rlc.proofs.AmPair.Laws.{sound}
use Rattle.law_rlc.proofs.AmPair.Sound.{IsTrueReport, IsSound}
use Rattle.law_account.specs.FlowHistory.{with_start, with_expiry, with_hearing, with_data, with_copy, with_report}
use Rattle.law_account.specs.FlowHistory.{with_step, with_steps}
use Rattle.law_account.specs.History.{turn_told, call_told, with_told}
use Rattle.law_account.specs.Ignored.{counted, IgnoredAreTold, ignores_read, ignores_report, ignores_in}
use Rattle.law_account.specs.Ignored.{FlowsTellIgnored}
use Rattle.law_account.specs.LateStatus.{entries_of}
use Rattle.law_account.proofs.FlowHistory.{KnowsOf, step_knows, knows_flow}
use Rattle.law_account.proofs.LateStatus.{heard_late}

pub ignored_told : IgnoredAreTold
ignored_told most es s status ack entries h heard w =
    sym (accounts_are_true most (StatusHeard ack entries ∷ es) h).ignored
    ∙ (ap (λ (n : ℕ). if nat_lt ack n then a.ignored + 1 else a.ignored) (sym w.base)
    ∙ (ap (λ (b : Bool). counted b a.ignored) (sym heard.ignored)
    ∙ ap (counted (is_ignored s status.ack)) (accounts_are_true most es h.1).ignored))
  where
    a : FlowAccount
    a = account_of most es

-- ---- no STATUS comes

turn_none : (t : Turn) (s : State) (size : ℕ) (es : List FlowEvent)
    → ignored_in (with_told (turn_told t s size) es) ≡ ignored_in es
turn_none turns.Whole s size es = refl
turn_none turns.Part s size es = refl
turn_none turns.New s size es = refl
turn_none turns.Idle s size es = refl
turn_none turns.Stopped s size es = refl
turn_none turns.Small s size es = refl
turn_none turns.Shut s size es = refl
turn_none turns.Held s size es = refl

call_none : (s : State) (c : SenderCall) (es : List FlowEvent)
    → ignored_in (with_told (call_told s c) es) ≡ ignored_in es
call_none s (Offer sdu) es = refl
call_none s (Take size held more) es = turn_none (turn s size held more) s size es
call_none s (Status status) es = refl
call_none s Tick es = refl
call_none s (Expire more) es = by (runs s.polls.timer)
  where
    by : (b : Bool) → ignored_in (with_told (if b then Some (PollExpired more) else None) es) ≡ ignored_in es
    by true = refl
    by false = refl
call_none s (Settle more) es = refl
call_none s Confirm es = refl

start_none : (b : Bool) (es : List FlowEvent) → ignored_in (with_start b es) ≡ ignored_in es
start_none true es = refl
start_none false es = refl

expiry_none : (x : Expired) (es : List FlowEvent) → ignored_in (with_expiry x es) ≡ ignored_in es
expiry_none NotRunning es = refl
expiry_none (Done again) es = start_none again (ReorderExpired ∷ es)

hearing_none : (s : Receiver) (c : Call) (es : List FlowEvent) → ignored_in (with_hearing s c es) ≡ ignored_in es
hearing_none s (Arrive pdu) es = refl
hearing_none s Up es = refl
hearing_none s Write es = refl
hearing_none s ExpireReorder es = expiry_none (reorder_answer s.mark s) es
hearing_none s ExpireProhibit es = refl
hearing_none s TickReorder es = refl
hearing_none s TickProhibit es = refl

copy_none : (s : Receiver) (o : Option Copy) (es : List FlowEvent) → ignored_in (with_copy s o es) ≡ ignored_in es
copy_none s None es = refl
copy_none s (Some c) es = by (am_at c.octets)
  where
    by : (read : Result AcknowledgedPdu RlcRefusal) → ignored_in (with_data s c.number read es) ≡ ignored_in es
    by (Ok (Payload pdu)) = start_none (turned s pdu).started
        (OctetsArrived c.number (so_of pdu.segment) (so_of pdu.segment + octets_in pdu.elements) ∷ es)
    by (Ok (Control pdu)) = refl
    by (Err refused) = refl

-- ---- one comes

report_ignored : (f : Flow) (r : Report) (es : List FlowEvent) → IsSound f
    → IsTrueReport (receiver f).kept (length (sender f).past.sent) f.busy r → KnowsOf es f
    → IsHistory (StatusHeard r.ack (entries_of r) ∷ es)
    → ignored_in (StatusHeard r.ack (entries_of r) ∷ es)
    ≡ counted (ignores_report (sender f).state (Some r)) (ignored_in es)
report_ignored f r es s q h now =
    subst (λ (x : Result AcknowledgedPdu RlcRefusal). ignored_in (StatusHeard r.ack (entries_of r) ∷ es)
    ≡ counted (ignores_read (sender f).state x) (ignored_in es)) (sym q.reads)
    (ignored_told f.sending.max_retx es (sender f).state (reduced r) r.ack (entries_of r) now
    (heard_late f s r q).heard h.follows.window)

reports_ignored : (f : Flow) (es : List FlowEvent) → IsSound f → KnowsOf es f → (rs : List Report) (k : ℕ)
    → AllByRecursion (IsTrueReport (receiver f).kept (length (sender f).past.sent) f.busy) rs
    → IsHistory (with_report (slice_get rs k) es)
    → ignored_in (with_report (slice_get rs k) es)
    ≡ counted (ignores_report (sender f).state (slice_get rs k)) (ignored_in es)
reports_ignored f es s h [] k all now = refl
reports_ignored f es s h (r ∷ rs) zero all now = report_ignored f r es s all.0 h now
reports_ignored f es s h (r ∷ rs) (suc k) all now = reports_ignored f es s h rs k all.1 now

step_ignored : (f : Flow) (x : Step) (es : List FlowEvent) → IsGiven f x → IsSound f → KnowsOf es f
    → ignored_in (with_step f x es) ≡ counted (ignores_in f x) (ignored_in es)
step_ignored f (Sends c) es g s h = call_none (sender f).state c es
step_ignored f (Receives c) es g s h = hearing_none (receiver f).state c es
step_ignored f (Reports size octets) es g s h = refl
step_ignored f (DataComes k) es g s h = copy_none (receiver f).state (slice_get f.copies k) es
step_ignored f (StatusComes k) es g s h =
    reports_ignored f es s h f.reports k s.reports (step_knows f (StatusComes k) es g s h).follows.history
step_ignored f (DataGoes k) es g s h = refl
step_ignored f (StatusGoes k) es g s h = refl
step_ignored f Passes es g s h = refl

pub flows_ignored : FlowsTellIgnored
flows_ignored sending receiving steps x g is =
    step_ignored (goes steps (am_rlc_outset sending receiving)) x
    (with_steps steps (am_rlc_outset sending receiving) []) is (sound sending receiving steps g)
    (knows_flow sending receiving steps g)
