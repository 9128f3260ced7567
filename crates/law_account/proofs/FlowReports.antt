-- Step by step the receiver of a flow keeps what its history says.
use Rattle.std.proofs.Common.{◌≡◌, ℕ, zero, suc, List, [], ◌∷◌, slice_get, Option, Some, None, Result, Ok, Err}
use Rattle.std.proofs.Common.{refl, ap, sym, subst}
use Rattle.std.specs.List.{AllByRecursion}
use Rattle.rlc_pdu.specs.declared.fault.RlcRefusal.{RlcRefusal}
use Rattle.rlc_pdu.specs.Pdus.{AcknowledgedPdu, Payload, Status as Control}
use Rattle.rlc_pdu.specs.Reading.{am_at}
use Rattle.journal_account.specs.FlowEvents.{FlowEvent}
use Rattle.journal_account.specs.FlowAccount.{account_of, arrivals_with}
use Rattle.law_rlc.specs.AmReceiver.Run.{Call, Arrive, Up, Write, ExpireReorder, ExpireProhibit, TickReorder}
use Rattle.law_rlc.specs.AmReceiver.Run.{TickProhibit, World, state_after}
use Rattle.law_rlc.specs.AmPair.Flow.{Copy, Report, Flow, Step, Sends, Receives, Reports, DataComes, StatusComes}
use Rattle.law_rlc.specs.AmPair.Flow.{DataGoes, StatusGoes, Passes, sender, receiver, receives, data_read, data_comes}
use Rattle.law_rlc.specs.AmPair.Flow.{status_read, status_comes, happens, goes, am_rlc_outset}
use Rattle.law_rlc.specs.AmPair.Given.{IsGiven, AreGiven, IsReceiving}
use Rattle.law_rlc.proofs.AmArrival.Coming.{IsRead, reads_copy}
use Rattle.law_rlc.proofs.AmPair.Laws.{happens-sound, sound}
use Rattle.law_rlc.proofs.AmPair.Runs.{receiver-more}
use Rattle.law_rlc.proofs.AmPair.Sound.{IsTrueCopy, IsSound}
use Rattle.law_account.specs.EndsTold.{AreEndsOf, BringsNone}
use Rattle.law_account.specs.FlowHistory.{with_hearing, with_data, with_copy, with_report, with_step, with_steps}
use Rattle.law_account.specs.FlowReceiving.{IsReceiverOf}
use Rattle.law_account.specs.FlowReports.{ReceiversAreTold, FlowsReportTruly}
use Rattle.law_account.specs.History.{call_told}
use Rattle.law_account.specs.Receiving.{IsReceiverAccounted}
use Rattle.law_account.proofs.EndsTold.{senders_go_on, receivers_go_on, copy_goes_on, ends_begin}
use Rattle.law_account.proofs.FlowHistory.{KnowsOf, is_told, step_knows, knows_flow}
use Rattle.law_account.proofs.FlowReceiving.{histories_tell_reports}

abbrev HeardBy : List FlowEvent → Flow → Type 0
HeardBy es f = IsReceiverOf f.sending.max_retx es (receiver f).state

both_ends : (f : Flow) (es : List FlowEvent) → KnowsOf es f → HeardBy es f
    → AreEndsOf f.sending.max_retx es (sender f).state (receiver f).state
both_ends f es k r = record { follows = k.follows; hears = r }

-- with one call more of the receiver
more_heard : (f : Flow) (c : Call) (es : List FlowEvent)
    → IsReceiverOf f.sending.max_retx es (state_after (receiver f).state c) → HeardBy es (receives f c)
more_heard f c es r =
    subst (λ (w : World). IsReceiverOf f.sending.max_retx es w.state) (sym (receiver-more f c)) r

brings_none : (c : Call) → IsReceiving c → BringsNone c
brings_none (Arrive pdu) g = g
brings_none Up g = tt
brings_none Write g = tt
brings_none ExpireReorder g = tt
brings_none ExpireProhibit g = tt
brings_none TickReorder g = tt
brings_none TickProhibit g = tt

-- ---- a data PDU comes

copy_heard : (f : Flow) (c : Copy) (es : List FlowEvent) → IsSound f → IsTrueCopy (sender f).past.sent c
    → KnowsOf es f → HeardBy es f → HeardBy (with_copy (receiver f).state (Some c) es) (data_comes f (Some c))
copy_heard f c es s t k r =
    subst (λ (x : Result AcknowledgedPdu RlcRefusal).
    HeardBy (with_data (receiver f).state c.number x es) (data_read f x)) (sym rd.read)
    (more_heard f (Arrive rd.pdu) (with_data (receiver f).state c.number (Ok (Payload rd.pdu)) es)
    (copy_goes_on f f.sending.max_retx es c rd.pdu s t rd.read (both_ends f es k r)).hears)
  where
    rd : IsRead (sender f).past.sent c.number c.octets
    rd = reads_copy f c s t

copies_heard : (f : Flow) (es : List FlowEvent) → IsSound f → KnowsOf es f → HeardBy es f → (cs : List Copy) (k : ℕ)
    → AllByRecursion (IsTrueCopy (sender f).past.sent) cs
    → HeardBy (with_copy (receiver f).state (slice_get cs k) es) (data_comes f (slice_get cs k))
copies_heard f es s k r [] at all = r
copies_heard f es s k r (c ∷ cs) zero all = copy_heard f c es s all.0 k r
copies_heard f es s k r (c ∷ cs) (suc at) all = copies_heard f es s k r cs at all.1

-- ---- a STATUS comes

report_heard : (f : Flow) (o : Option Report) (es : List FlowEvent) → HeardBy es f
    → HeardBy (with_report o es) (status_comes f o)
report_heard f None es r = r
report_heard f (Some x) es r = by (am_at x.octets)
  where
    by : (read : Result AcknowledgedPdu RlcRefusal)
        → IsReceiverOf (status_read f read).sending.max_retx (with_report (Some x) es)
        (receiver (status_read f read)).state
    by (Ok (Payload pdu)) = r
    by (Ok (Control pdu)) = r
    by (Err refused) = r

-- ---- any steps

step_heard : (f : Flow) (x : Step) (es : List FlowEvent) → IsGiven f x → IsSound f → KnowsOf es f → HeardBy es f
    → HeardBy (with_step f x es) (happens f x)
step_heard f (Sends c) es g s k r =
    (senders_go_on f.sending.max_retx es (sender f).state (receiver f).state c (call_told (sender f).state c)
    (is_told f c g) (both_ends f es k r)).hears
step_heard f (Receives c) es g s k r =
    more_heard f c (with_hearing (receiver f).state c es)
    (receivers_go_on f.sending.max_retx es (sender f).state (receiver f).state c (brings_none c g)
    (both_ends f es k r)).hears
step_heard f (Reports size octets) es g s k r = more_heard f Write es r
step_heard f (DataComes at) es g s k r = copies_heard f es s k r f.copies at s.copies
step_heard f (StatusComes at) es g s k r = report_heard f (slice_get f.reports at) es r
step_heard f (DataGoes at) es g s k r = r
step_heard f (StatusGoes at) es g s k r = r
step_heard f Passes es g s k r = r

steps_heard : (xs : List Step) (f : Flow) (es : List FlowEvent) → AreGiven f xs → IsSound f → KnowsOf es f
    → HeardBy es f → HeardBy (with_steps xs f es) (goes xs f)
steps_heard [] f es g s k r = r
steps_heard (x ∷ xs) f es g s k r =
    steps_heard xs (happens f x) (with_step f x es) g.1 (happens-sound f x g.0 s) (step_knows f x es g.0 s k)
    (step_heard f x es g.0 s k r)

-- what has arrived has no limit
arrivals_same : (m n : ℕ) (es : List FlowEvent) → (account_of m es).arrivals ≡ (account_of n es).arrivals
arrivals_same m n [] = refl
arrivals_same m n (e ∷ es) = ap (arrivals_with e) (arrivals_same m n es)

pub receivers_told : ReceiversAreTold
receivers_told sending receiving steps g =
    let f = goes steps (am_rlc_outset sending receiving) in
    let es = with_steps steps (am_rlc_outset sending receiving) [] in
    subst (IsReceiverAccounted (receiver f).state) (arrivals_same f.sending.max_retx sending.max_retx es)
    (steps_heard steps (am_rlc_outset sending receiving) [] g (sound sending receiving [] tt)
    (knows_flow sending receiving [] tt) (ends_begin sending receiving).hears)

pub flows_report : FlowsReportTruly
flows_report sending receiving steps size g =
    histories_tell_reports sending.max_retx (with_steps steps (am_rlc_outset sending receiving) [])
    (receiver (goes steps (am_rlc_outset sending receiving))).state size
    (knows_flow sending receiving steps g).follows.history (receivers_told sending receiving steps g)
