-- The octets of PDUs that a PDCP sender has still to give to RLC in a life (TS 36.323 5.1.1, 5.2.1,
-- 5.3, 5.4): of its own status report, of SDUs that are given again, and of all that wait.
use Rattle.std.specs.Prelude.{ℕ, ◌+◌, ◌≤◌, length, List, [], ◌∷◌, Option, Some, None, slice_get}
use Rattle.pdcp_pdu.specs.declared.pdu.PdcpKind.{PdcpKind}
use Rattle.pdcp_tx_store.specs.declared.given.Sent.{Sent}
use Rattle.pdcp_tx_store.specs.Waiting.{Waits}
use Rattle.pdcp_tx.specs.Pdus.{extra}
use Rattle.pdcp_tx.specs.State.{State, Offer, offers, size}
use Rattle.pdcp_tx.specs.Runs.{Call, Submit, Take, Confirm, Report, Owe, Tick, Late, after}

abbrev pub report_octets : Option (List ℕ) → ℕ
report_octets None = 0
report_octets (Some report) = length report

abbrev pub again_octets : ℕ → List Sent → ℕ
again_octets more [] = 0
again_octets more (s ∷ ss) = length s.octets + more + again_octets more ss

abbrev pub waiting_octets : ℕ → List Waits → ℕ
waiting_octets more [] = 0
waiting_octets more (w ∷ ws) = length w.sdu + more + waiting_octets more ws

abbrev pub unsent : State → ℕ
unsent s = report_octets s.owed + (again_octets (extra s.kind) s.again
    + waiting_octets (extra s.kind) s.waiting)

-- the octets of the PDU that is given first
abbrev pub offer_octets : PdcpKind → Option Offer → ℕ
offer_octets kind None = 0
offer_octets kind (Some o) = size kind o.count (length o.text)

-- those that a call gives to RLC, and those that it adds
abbrev pub given_by : State → Call → ℕ
given_by s (Submit sdu) = 0
given_by s Take = offer_octets s.kind (slice_get (offers s) 0)
given_by s (Confirm place) = 0
given_by s (Report fms bitmap) = 0
given_by s (Owe report) = 0
given_by s Tick = 0
given_by s Late = 0

abbrev pub added_by : State → Call → ℕ
added_by s (Submit sdu) = length sdu + extra s.kind
added_by s Take = 0
added_by s (Confirm place) = 0
added_by s (Report fms bitmap) = 0
added_by s (Owe report) = length report
added_by s Tick = 0
added_by s Late = 0

abbrev pub UnsentFalls : Type 0
UnsentFalls = (s : State) (c : Call) → unsent (after s c) + given_by s c ≤ unsent s + added_by s c
