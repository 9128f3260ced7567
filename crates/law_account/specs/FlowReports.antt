-- Along the steps of a flow, through losses, repeats and delays: its receiver keeps what the
-- history of these steps says, and each STATUS that it writes is true of it (docs/laws/ACCOUNT.md;
-- TS 36.322 5.1.3.2, 5.2.3).
use Rattle.std.specs.Prelude.{ℕ, List, []}
use Rattle.l2_types.specs.declared.config.AmTxConfig.{AmTxConfig}
use Rattle.l2_types.specs.declared.AmRxConfig.{AmRxConfig}
use Rattle.rlc_am_rx.specs.Status.{ack}
use Rattle.journal_account.specs.TrueStatus.{IsTrueStatus}
use Rattle.law_rlc.specs.AmPair.Flow.{Step, receiver, goes, am_rlc_outset}
use Rattle.law_rlc.specs.AmPair.Given.{AreGiven}
use Rattle.law_account.specs.Reporting.{reported}
use Rattle.law_account.specs.FlowReceiving.{IsReceiverOf}
use Rattle.law_account.specs.FlowHistory.{with_steps}

abbrev pub ReceiversAreTold : Type 0
ReceiversAreTold = (sending : AmTxConfig) (receiving : AmRxConfig) (steps : List Step)
    → AreGiven (am_rlc_outset sending receiving) steps
    → IsReceiverOf sending.max_retx (with_steps steps (am_rlc_outset sending receiving) [])
    (receiver (goes steps (am_rlc_outset sending receiving))).state

-- of any size
abbrev pub FlowsReportTruly : Type 0
FlowsReportTruly = (sending : AmTxConfig) (receiving : AmRxConfig) (steps : List Step) (size : ℕ)
    → AreGiven (am_rlc_outset sending receiving) steps
    → IsTrueStatus (with_steps steps (am_rlc_outset sending receiving) [])
    (ack (receiver (goes steps (am_rlc_outset sending receiving))).state size)
    (reported (receiver (goes steps (am_rlc_outset sending receiving))).state size)
