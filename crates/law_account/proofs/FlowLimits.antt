-- The limit that a step of a flow tells is that of the history.
use Rattle.std.proofs.Common.{length, ℕ, zero, suc, List, [], ◌∷◌, slice_get, Option, Some, None, Result, Ok, Err}
use Rattle.std.proofs.Common.{refl, sym, subst}
use Rattle.std.specs.List.{AllByRecursion}
use Rattle.rlc_pdu.specs.declared.fault.RlcRefusal.{RlcRefusal}
use Rattle.rlc_pdu.specs.Pdus.{AcknowledgedPdu, Payload, Status as Control}
use Rattle.rlc_pdu.specs.Reading.{am_at}
use Rattle.rlc_am_tx.specs.Machine.{State}
use Rattle.journal_account.specs.FlowEvents.{FlowEvent, StatusHeard}
use Rattle.journal_account.proofs.Accounts.{accounts_are_true}
use Rattle.law_rlc.specs.AmSender.Run.{Status}
use Rattle.law_rlc.specs.AmPair.Flow.{Copy, Report, Flow, Step, Sends, Receives, Reports, DataComes, StatusComes}
use Rattle.law_rlc.specs.AmPair.Flow.{DataGoes, StatusGoes, Passes, data_comes, data_read, sender, receiver, goes}
use Rattle.law_rlc.specs.AmPair.Flow.{am_rlc_outset}
use Rattle.law_rlc.specs.AmPair.Given.{IsGiven}
use Rattle.law_rlc.specs.AmPair.Statuses.{reduced}
use Rattle.law_rlc.proofs.AmPair.Laws.{sound}
use Rattle.law_rlc.proofs.AmPair.Sound.{IsTrueReport, IsSound}
use Rattle.law_account.specs.FlowHistory.{with_report, with_step, with_steps, limit_read, limit_heard_in, limit_in}
use Rattle.law_account.specs.FlowHistory.{FlowsTellLimits}
use Rattle.law_account.specs.History.{Follows, call_told, IsLimitOf}
use Rattle.law_account.specs.LateStatus.{entries_of}
use Rattle.law_account.proofs.FlowHistory.{KnowsOf, is_told, step_knows, knows_flow}
use Rattle.law_account.proofs.LateStatus.{heard_late}
use Rattle.law_account.proofs.Telling.{LimitBy, limit_of_history, quietly, calls_tell_limits}

-- the sender stays as it is
silent : (most : ℕ) (es now : List FlowEvent) (s : State) → Follows most es s → Follows most now s
    → IsLimitOf most es now None
silent most es now s h k =
    limit_of_history most es now (LimitBy most es) (LimitBy most now) None
    (accounts_are_true most es h.history).sending.limit (accounts_are_true most now k.history).sending.limit
    (quietly s.failed s.failed (LimitBy most es) (LimitBy most now) h.limit.failed_is k.limit.failed_is refl)

report_limit : (f : Flow) (r : Report) (es : List FlowEvent) → IsSound f
    → IsTrueReport (receiver f).kept (length (sender f).past.sent) f.busy r → KnowsOf es f
    → IsLimitOf f.sending.max_retx es (StatusHeard r.ack (entries_of r) ∷ es)
    (limit_heard_in (sender f).state (Some r))
report_limit f r es s q h =
    subst (λ (x : Result AcknowledgedPdu RlcRefusal). IsLimitOf f.sending.max_retx es
    (StatusHeard r.ack (entries_of r) ∷ es) (limit_read (sender f).state x)) (sym q.reads)
    (calls_tell_limits f.sending.max_retx es (sender f).state (Status (reduced r))
    (Some (StatusHeard r.ack (entries_of r))) (r.ack, entries_of r, (heard_late f s r q).heard, refl) h.follows)

reports_limit : (f : Flow) (es : List FlowEvent) → IsSound f → KnowsOf es f → (rs : List Report) (k : ℕ)
    → AllByRecursion (IsTrueReport (receiver f).kept (length (sender f).past.sent) f.busy) rs
    → IsLimitOf f.sending.max_retx es (with_report (slice_get rs k) es)
    (limit_heard_in (sender f).state (slice_get rs k))
reports_limit f es s h [] k all = silent f.sending.max_retx es es (sender f).state h.follows h.follows
reports_limit f es s h (r ∷ rs) zero all = report_limit f r es s all.0 h
reports_limit f es s h (r ∷ rs) (suc k) all = reports_limit f es s h rs k all.1

-- a data PDU that comes leaves the sender alone
unchanged : (f : Flow) (o : Option Copy) (es : List FlowEvent)
    → Follows (data_comes f o).sending.max_retx es (sender (data_comes f o)).state
    → Follows f.sending.max_retx es (sender f).state
unchanged f None es h = h
unchanged f (Some c) es h = by (am_at c.octets) h
  where
    by : (r : Result AcknowledgedPdu RlcRefusal)
        → Follows (data_read f r).sending.max_retx es (sender (data_read f r)).state
        → Follows f.sending.max_retx es (sender f).state
    by (Ok (Payload pdu)) h = h
    by (Ok (Control pdu)) h = h
    by (Err refused) h = h

step_limit : (f : Flow) (s : Step) (es : List FlowEvent) → IsGiven f s → IsSound f → KnowsOf es f
    → IsLimitOf f.sending.max_retx es (with_step f s es) (limit_in f s)
step_limit f (Sends c) es g s h =
    calls_tell_limits f.sending.max_retx es (sender f).state c (call_told (sender f).state c) (is_told f c g) h.follows
step_limit f (Receives c) es g s h =
    silent f.sending.max_retx es (with_step f (Receives c) es) (sender f).state h.follows
    (step_knows f (Receives c) es g s h).follows
step_limit f (Reports size octets) es g s h =
    silent f.sending.max_retx es es (sender f).state h.follows h.follows
step_limit f (DataComes k) es g s h =
    silent f.sending.max_retx es (with_step f (DataComes k) es) (sender f).state h.follows
    (unchanged f (slice_get f.copies k) (with_step f (DataComes k) es) (step_knows f (DataComes k) es g s h).follows)
step_limit f (StatusComes k) es g s h = reports_limit f es s h f.reports k s.reports
step_limit f (DataGoes k) es g s h = silent f.sending.max_retx es es (sender f).state h.follows h.follows
step_limit f (StatusGoes k) es g s h = silent f.sending.max_retx es es (sender f).state h.follows h.follows
step_limit f Passes es g s h = silent f.sending.max_retx es es (sender f).state h.follows h.follows

pub flows_tell_limits : FlowsTellLimits
flows_tell_limits sending receiving steps g s is =
    step_limit (goes steps (am_rlc_outset sending receiving)) s
    (with_steps steps (am_rlc_outset sending receiving) []) is (sound sending receiving steps g)
    (knows_flow sending receiving steps g)
