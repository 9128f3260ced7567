-- Which STATUS a sender ignores, by the history of its flow (TS 36.322 5.2.1, 7.1).
use Rattle.std.specs.Prelude.{◌≡◌, ℕ, ◌+◌, Bool, false, if◌then◌else◌, List, [], ◌∷◌, Option}
use Rattle.std.specs.Prelude.{Some, None, Result, Ok, Err, slice_get}
use Rattle.l2_types.specs.declared.config.AmTxConfig.{AmTxConfig}
use Rattle.l2_types.specs.declared.AmRxConfig.{AmRxConfig}
use Rattle.rlc_pdu.specs.declared.fault.RlcRefusal.{RlcRefusal}
use Rattle.rlc_pdu.specs.Pdus.{AcknowledgedPdu, StatusPdu, Payload, Status as Control}
use Rattle.rlc_pdu.specs.Reading.{am_at}
use Rattle.rlc_am_tx.specs.Machine.{State, is_ignored}
use Rattle.journal_account.specs.declared.entry.StatusEntry.{StatusEntry}
use Rattle.journal_account.specs.Acked.{ignored_in}
use Rattle.journal_account.specs.FlowAccount.{account_of}
use Rattle.journal_account.specs.FlowEvents.{FlowEvent, StatusHeard, IsHistory}
use Rattle.law_rlc.specs.AmPair.Flow.{Report, Flow, Step, Sends, Receives, Reports, DataComes}
use Rattle.law_rlc.specs.AmPair.Flow.{StatusComes, DataGoes, StatusGoes, Passes, sender}
use Rattle.law_rlc.specs.AmPair.Flow.{goes, am_rlc_outset}
use Rattle.law_rlc.specs.AmPair.Given.{IsGiven, AreGiven}
use Rattle.law_account.specs.Accounted.{AreAccounted}
use Rattle.law_account.specs.Heard.{IsHeard}
use Rattle.law_account.specs.FlowHistory.{with_step, with_steps}

-- one more is ignored, or none
abbrev pub counted : Bool → ℕ → ℕ
counted ignored n = if ignored then n + 1 else n

-- a STATUS counts among the ignored ones exactly where its sender ignores it
abbrev pub IgnoredAreTold : Type 0
IgnoredAreTold = (most : ℕ) (es : List FlowEvent) (s : State) (status : StatusPdu) (ack : ℕ)
    (entries : List StatusEntry) → IsHistory (StatusHeard ack entries ∷ es)
    → IsHeard s status ack entries → AreAccounted most s.window (account_of most es).sending
    → ignored_in (StatusHeard ack entries ∷ es) ≡ counted (is_ignored s status.ack) (ignored_in es)

-- ---- along a flow

abbrev pub ignores_read : State → Result AcknowledgedPdu RlcRefusal → Bool
ignores_read s (Ok (Control status)) = is_ignored s status.ack
ignores_read s (Ok (Payload pdu)) = false
ignores_read s (Err refused) = false

abbrev pub ignores_report : State → Option Report → Bool
ignores_report s None = false
ignores_report s (Some r) = ignores_read s (am_at r.octets)

-- a step brings a STATUS that its sender ignores
abbrev pub ignores_in : Flow → Step → Bool
ignores_in f (Sends c) = false
ignores_in f (Receives c) = false
ignores_in f (Reports size octets) = false
ignores_in f (DataComes k) = false
ignores_in f (StatusComes k) = ignores_report (sender f).state (slice_get f.reports k)
ignores_in f (DataGoes k) = false
ignores_in f (StatusGoes k) = false
ignores_in f Passes = false

abbrev pub FlowsTellIgnored : Type 0
FlowsTellIgnored = (sending : AmTxConfig) (receiving : AmRxConfig) (steps : List Step) (x : Step)
    → AreGiven (am_rlc_outset sending receiving) steps
    → IsGiven (goes steps (am_rlc_outset sending receiving)) x
    → ignored_in (with_step (goes steps (am_rlc_outset sending receiving)) x
    (with_steps steps (am_rlc_outset sending receiving) []))
    ≡ counted (ignores_in (goes steps (am_rlc_outset sending receiving)) x)
    (ignored_in (with_steps steps (am_rlc_outset sending receiving) []))
