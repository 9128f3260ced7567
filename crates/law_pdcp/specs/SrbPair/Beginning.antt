-- How a life of the PDCP of a signalling bearer begins, in one direction (TS 36.323 5.2.1.3,
-- 5.2.2.3).
use Rattle.std.specs.Prelude.{◌≡◌, ℕ, ◌^◌, ◌≤◌, List, []}
use Rattle.eps_sec.specs.declared.Keys.{Keys}
use Rattle.pdcp_pdu.specs.declared.PdcpKind.TheVariants.{Srb}
use Rattle.pdcp_sec.specs.Protection.{Protection}
use Rattle.pdcp_tx.specs.State.{State as Sending, start, restarted as restarted_sending}
use Rattle.pdcp_rx.specs.State.{State as Receiving, fresh, restarted as restarted_receiving}
use Rattle.law_pdcp.specs.SrbPair.Flow.{Event, run_srb_pdcp, srb_pdcp_outset, AreGiven}
use Rattle.law_pdcp.specs.SrbPair.Flow.{SrbPdcpBeginAlike}

abbrev pub FirstLifeBegins : Type 0
FirstLifeBegins = (p : Protection) (first : ℕ) → first ≤ 2 ^ 32
    → SrbPdcpBeginAlike (start Srb p first) (fresh Srb p first)

-- the next life begins with COUNT 0, under the same keys at both ends
pub record BeginAnew (s : Sending) (r : Receiving) : Type 0 where
  pub alike : SrbPdcpBeginAlike s r
  pub anew : s.next ≡ 0

abbrev pub NextLifeBegins : Type 0
NextLifeBegins = (s : Sending) (r : Receiving) (events : List Event) (keys : Keys)
    → SrbPdcpBeginAlike s r → AreGiven (srb_pdcp_outset s r) events
    → (run_srb_pdcp events (srb_pdcp_outset s r)).receiver.ready ≡ []
    → BeginAnew (restarted_sending (run_srb_pdcp events (srb_pdcp_outset s r)).sender keys)
    (restarted_receiving (run_srb_pdcp events (srb_pdcp_outset s r)).receiver keys)
