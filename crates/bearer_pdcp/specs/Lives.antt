-- The end of a life and the beginning of the next, under other keys (TS 36.323 5.2).
use Rattle.std.specs.Prelude.{ℕ, if◌then◌else◌, List, Option, Some, None, IfSome, IsFalse}
use Rattle.eps_sec.specs.declared.Keys.{Keys}
use Rattle.pdcp_pdu.specs.declared.PdcpKind.{PdcpKind}
use Rattle.pdcp_pdu.specs.Kinds.{is_am}
use Rattle.pdcp_rx.specs.State.{State as Receiving, report, restarted as restarted_receiving}
use Rattle.pdcp_tx.specs.Entity.{Entity}
use Rattle.pdcp_tx.specs.State.{State as Sending, IsShort, restarted as restarted_sending, owing}
use Rattle.bearer_pdcp.specs.Ends.{Ends}

-- an acknowledged data bearer owes, first of all, a status report of what its receiver holds (that
-- it always does is this project's profile)
abbrev pub report_of : PdcpKind → Receiving → Option (List ℕ)
report_of kind r = if is_am kind then Some (report r) else None

abbrev pub owing_report : Option (List ℕ) → Sending → Sending
owing_report None s = s
owing_report (Some pdu) s = owing s pdu

-- RLC can take what a sender owes, as long as memory hasn't run out
abbrev pub OwesShort : Entity → Type 0
OwesShort tx = IsFalse tx.dead → IfSome tx.state.owed IsShort

unfoldable pub restarted : Ends → Keys → Ends
restarted e keys = record e {
  tx = owing_report (report_of e.kind e.rx) (restarted_sending e.tx keys);
  rx = restarted_receiving e.rx keys;
}
