-- RLC takes a PDU (TS 36.323 5.1.1, 5.3.1): what that tells.
use Rattle.std.specs.Prelude.{ℕ, List, [], ◌∷◌, Option, Some, None, Result, Ok, Err, option_map}
use Rattle.bearer_types.specs.declared.Event.{Event}
use Rattle.bearer_types.specs.declared.Event.TheVariants as events
use Rattle.pdcp_pdu.specs.declared.PdcpKind.{PdcpKind}
use Rattle.pdcp_pdu.specs.declared.PdcpKind.TheVariants.{Srb, Um, Am}
use Rattle.pdcp_pdu.specs.declared.PdcpRefusal.{PdcpRefusal}
use Rattle.pdcp_pdu.specs.Pdus.{UserPdu, Sdu, Report}
use Rattle.pdcp_pdu.specs.Reading.{user_at}
use Rattle.pdcp_tx.specs.declared.Next.{Next}
use Rattle.pdcp_tx.specs.State.{taking, took}
use Rattle.bearer_pdcp.specs.Ends.{Ends}

-- a status report by its fields
abbrev pub report_told : ℕ → Result UserPdu PdcpRefusal → List Event
report_told lcid (Err refusal) = []
report_told lcid (Ok (Sdu sn octets)) = []
report_told lcid (Ok (Report fms bitmap)) = events.Report lcid fms bitmap ∷ []

abbrev pub own_report_told : ℕ → PdcpKind → List ℕ → List Event
own_report_told lcid Srb pdu = []
own_report_told lcid (Um bits) pdu = report_told lcid (user_at bits pdu)
own_report_told lcid (Am bits) pdu = report_told lcid (user_at bits pdu)

-- an SDU by its COUNT and its length
abbrev pub taken_told : ℕ → PdcpKind → Option ℕ → ℕ → List ℕ → List Event
taken_told lcid kind (Some count) len pdu = events.Take lcid (Some count) len ∷ []
taken_told lcid kind None len pdu = own_report_told lcid kind pdu

abbrev pub next_told : ℕ → PdcpKind → Option Next → List Event
next_told lcid kind None = []
next_told lcid kind (Some n) = taken_told lcid kind n.count n.len n.octets

-- the PDU that is taken, what it tells, and what is left
unfoldable pub taken : Ends → Option (List ℕ)
taken e = option_map (λ n. n.octets) (taking e.tx)

unfoldable pub taking_told : Ends → List Event
taking_told e = next_told e.lcid e.kind (taking e.tx)

unfoldable pub after_taking : Ends → Ends
after_taking e = record e { tx = took e.tx }
