-- What an acknowledged sender may still send at most, by the octets that it was offered and that
-- aren't wholly acknowledged (TS 36.322 5.2.1): a drain reckons its budget of rounds by these.
use Rattle.std.specs.Prelude.{ℕ, ◌≤◌, ◌<◌, ◌+◌, ◌*◌, List, length}
use Rattle.std.specs.List.{AllByRecursion}
use Rattle.pdcp_pdu.specs.declared.pdu.PdcpKind.{PdcpKind}
use Rattle.pdcp_sec.specs.Protection.{Protection}
use Rattle.pdcp_tx.specs.Pdus.{extra}
use Rattle.pdcp_tx.specs.Runs.{Call as PdcpCall, Submit, Take, Confirm, Report, Owe, Tick, Late}
use Rattle.pdcp_tx.specs.State.{start, left as pdcp_left}
use Rattle.law_pdcp.specs.OneEnd.Lives.{Step, Calls, SetDiscard, Restart, run_pdcp_sender}
use Rattle.l2_types.specs.declared.config.AmTxConfig.{AmTxConfig}
use Rattle.rlc_am_tx.specs.Need.{left}
use Rattle.law_rlc.specs.AmSender.Namings.{unmarked, marks_after}
use Rattle.law_rlc.specs.AmSender.Run.{Call, run_am_sender, begun}
use Rattle.law_drain.specs.Dues.{dues}
use Rattle.law_drain.specs.Unsent.{unsent, report_octets}

-- each of these octets may be sent once, and once more for each naming that counts
abbrev pub DuesAreLeft : Type 0
DuesAreLeft = (config : AmTxConfig) (calls : List Call)
    → (let w = run_am_sender marks_after calls (begun config unmarked) in
    dues w.state w.past ≤ (w.state.config.max_retx + 1) * left w.state)

-- ---- PDCP

abbrev pub SubmitsOctets : PdcpCall → Type 0
SubmitsOctets (Submit sdu) = 0 < length sdu
SubmitsOctets Take = Unit {0}
SubmitsOctets (Confirm place) = Unit {0}
SubmitsOctets (Report fms bitmap) = Unit {0}
SubmitsOctets (Owe report) = Unit {0}
SubmitsOctets Tick = Unit {0}
SubmitsOctets Late = Unit {0}

abbrev pub HasOctets : Step → Type 0
HasOctets (Calls c) = SubmitsOctets c
HasOctets (SetDiscard ttis) = Unit {0}
HasOctets (Restart keys) = Unit {0}

-- after any steps, each SDU having an octet: but for the own report, what is still to be given is
-- the SDUs that aren't confirmed, with at most a header and a MAC-I more for each of their octets
abbrev pub UnsentIsLeft : Type 0
UnsentIsLeft =
    (kind : PdcpKind) (p : Protection) (first : ℕ) (steps : List Step)
    → AllByRecursion HasOctets steps
    → (let s = run_pdcp_sender steps (start kind p first) in
    unsent s ≤ report_octets s.owed + (extra s.kind + 1) * pdcp_left s)
