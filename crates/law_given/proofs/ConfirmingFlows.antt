-- The history of a flow's steps tells the sizes of its SDUs and of its data fields.
use Rattle.std.proofs.Common.{◌≡◌, ℕ, ◌+◌, Bool, true, false, List, [], ◌∷◌, ◌++◌, map, length, Option, Some, None}
use Rattle.std.proofs.Common.{Result, Ok, Err, slice_get, refl, ap, sym, ◌∙◌}
use Rattle.std.proofs.lemmas.List.{append-nil, map-append}
use Rattle.rlc_pdu.specs.declared.Expired.{Expired}
use Rattle.rlc_pdu.specs.declared.Expired.TheVariants.{Done, NotRunning}
use Rattle.rlc_pdu.specs.declared.fault.RlcRefusal.{RlcRefusal}
use Rattle.rlc_pdu.specs.Pdus.{AcknowledgedPdu, Payload, Status as Control}
use Rattle.rlc_pdu.specs.Reading.{am_at}
use Rattle.rlc_am_rx_window.specs.Piece.{octets_in, so_of}
use Rattle.rlc_am_rx.specs.Machine.{turned, reorder_answer}
use Rattle.rlc_am_rx.specs.State.{State as Receiver}
use Rattle.journal_account.specs.FlowEvents.{FlowEvent, OctetsArrived, ReorderExpired}
use Rattle.journal_account.specs.Stream.{sdu_sizes}
use Rattle.law_rlc.specs.AmReceiver.Run.{Call, Arrive, Up, Write, ExpireReorder, ExpireProhibit, TickReorder}
use Rattle.law_rlc.specs.AmReceiver.Run.{TickProhibit}
use Rattle.law_rlc.specs.AmPair.Flow.{Copy, Report, Flow, Step, Sends, Receives, Reports, DataComes, StatusComes}
use Rattle.law_rlc.specs.AmPair.Flow.{DataGoes, StatusGoes, Passes, sender, receiver, happens, goes, am_rlc_outset}
use Rattle.law_rlc.specs.AmPair.Given.{IsGiven, AreGiven}
use Rattle.law_rlc.specs.AmPair.Sdus.{offered}
use Rattle.law_rlc.specs.AmPair.Steps.{offers}
use Rattle.law_rlc.proofs.AmPair.Laws.{sound}
use Rattle.law_rlc.proofs.AmPair.Steps.{step-offers}
use Rattle.law_account.specs.FlowHistory.{with_start, with_expiry, with_hearing, with_data, with_copy, with_report}
use Rattle.law_account.specs.FlowHistory.{with_step, with_steps}
use Rattle.law_account.specs.History.{call_told}
use Rattle.law_account.proofs.FlowHistory.{is_told, knows_flow}
use Rattle.law_given.specs.Confirming.{FlowsHaveSizesTold}
use Rattle.law_given.proofs.ConfirmingRuns.{call_sdus}

-- ---- what happens at the receiver, and what a STATUS says, takes no SDU

start_sdus : (b : Bool) (es : List FlowEvent) → sdu_sizes (with_start b es) ≡ sdu_sizes es
start_sdus true es = append-nil (sdu_sizes es)
start_sdus false es = refl

expiry_sdus : (x : Expired) (es : List FlowEvent) → sdu_sizes (with_expiry x es) ≡ sdu_sizes es
expiry_sdus NotRunning es = refl
expiry_sdus (Done again) es = start_sdus again (ReorderExpired ∷ es) ∙ append-nil (sdu_sizes es)

hearing_sdus : (s : Receiver) (c : Call) (es : List FlowEvent) → sdu_sizes (with_hearing s c es) ≡ sdu_sizes es
hearing_sdus s (Arrive pdu) es = refl
hearing_sdus s Up es = refl
hearing_sdus s Write es = refl
hearing_sdus s ExpireReorder es = expiry_sdus (reorder_answer s.mark s) es
hearing_sdus s ExpireProhibit es = refl
hearing_sdus s TickReorder es = refl
hearing_sdus s TickProhibit es = refl

data_sdus : (s : Receiver) (n : ℕ) (r : Result AcknowledgedPdu RlcRefusal) (es : List FlowEvent)
    → sdu_sizes (with_data s n r es) ≡ sdu_sizes es
data_sdus s n (Ok (Payload pdu)) es =
    start_sdus (turned s pdu).started
    (OctetsArrived n (so_of pdu.segment) (so_of pdu.segment + octets_in pdu.elements) ∷ es)
    ∙ append-nil (sdu_sizes es)
data_sdus s n (Ok (Control pdu)) es = refl
data_sdus s n (Err refused) es = refl

copy_sdus : (s : Receiver) (o : Option Copy) (es : List FlowEvent) → sdu_sizes (with_copy s o es) ≡ sdu_sizes es
copy_sdus s None es = refl
copy_sdus s (Some c) es = data_sdus s c.number (am_at c.octets) es

report_sdus : (o : Option Report) (es : List FlowEvent) → sdu_sizes (with_report o es) ≡ sdu_sizes es
report_sdus None es = refl
report_sdus (Some r) es = append-nil (sdu_sizes es)

-- ---- any steps

step_sdus : (f : Flow) (s : Step) (es : List FlowEvent) → IsGiven f s
    → sdu_sizes (with_step f s es) ≡ sdu_sizes es ++ map length (offers s)
step_sdus f (Sends c) es g =
    call_sdus es (sender f).state c (call_told (sender f).state c) (is_told f c g)
step_sdus f (Receives c) es g = hearing_sdus (receiver f).state c es ∙ sym (append-nil (sdu_sizes es))
step_sdus f (Reports size octets) es g = sym (append-nil (sdu_sizes es))
step_sdus f (DataComes k) es g =
    copy_sdus (receiver f).state (slice_get f.copies k) es ∙ sym (append-nil (sdu_sizes es))
step_sdus f (StatusComes k) es g = report_sdus (slice_get f.reports k) es ∙ sym (append-nil (sdu_sizes es))
step_sdus f (DataGoes k) es g = sym (append-nil (sdu_sizes es))
step_sdus f (StatusGoes k) es g = sym (append-nil (sdu_sizes es))
step_sdus f Passes es g = sym (append-nil (sdu_sizes es))

steps_sdus : (ss : List Step) (f : Flow) (es : List FlowEvent) → AreGiven f ss
    → sdu_sizes es ≡ map length (offered f) → sdu_sizes (with_steps ss f es) ≡ map length (offered (goes ss f))
steps_sdus [] f es g h = h
steps_sdus (s ∷ ss) f es g h =
    steps_sdus ss (happens f s) (with_step f s es) g.1
    (step_sdus f s es g.0
    ∙ (ap (λ (l : List ℕ). l ++ map length (offers s)) h
    ∙ (sym (map-append length (offered f) (offers s)) ∙ ap (map length) (sym (step-offers f s)))))

pub flows_have_sizes : FlowsHaveSizesTold
flows_have_sizes sending receiving steps given =
    record {
      octets = (sound sending receiving steps given).offered;
      sdus = steps_sdus steps (am_rlc_outset sending receiving) [] given refl;
      fields = (knows_flow sending receiving steps given).sizes;
    }
