-- What a signalling bearer's PDCP writes, reads and delivers in a life (TS 36.323 5.1.1, 5.1.2.2,
-- 5.6, 5.7).
use Rattle.std.specs.Prelude.{◌≡◌, ◌≢◌, ℕ, ◌+◌, ◌%◌, ◌<◌, List, [], ◌∷◌, ◌++◌, length, take, Some}
use Rattle.std.specs.Prelude.{slice_get}
use Rattle.pdcp_pdu.specs.declared.PdcpKind.TheVariants.{Srb}
use Rattle.pdcp_sec.specs.Protection.{Protection}
use Rattle.pdcp_tx.specs.declared.sender.Next.{Next}
use Rattle.pdcp_tx.specs.State.{State as Sending, written}
use Rattle.pdcp_tx.specs.Pdus.{pdu}
use Rattle.pdcp_tx.specs.Runs.{Call, Submit, Take, Confirm, Report, Owe, Tick, Late}
use Rattle.pdcp_rx.specs.declared.got.Cause.TheVariants.{Arrived}
use Rattle.pdcp_rx.specs.declared.got.Got.TheVariants as answers
use Rattle.pdcp_rx.specs.declared.security.Opened.TheVariants.{Sdu}
use Rattle.pdcp_rx.specs.Heard.{Data, heard}
use Rattle.pdcp_rx.specs.State.{State as Receiving, above, opened_at, got, arrived}
use Rattle.law_pdcp.specs.OneEnd.Lives.{queue}
use Rattle.law_pdcp.specs.SrbPair.Flow.{Flow, Event, Sends, HandUp, Raise, run_srb_pdcp}
use Rattle.law_pdcp.specs.SrbPair.Flow.{srb_pdcp_outset, SrbPdcpBeginAlike}
use Rattle.law_pdcp.specs.SrbPair.Flow.{AreGiven}

-- ---- as it is written

-- the PDUs of some SDUs, with the COUNTs from one on
abbrev pub written_from : Protection → ℕ → List (List ℕ) → List Next
written_from p count [] = []
written_from p count (sdu ∷ sdus) = written Srb p (Some count) sdu ∷ written_from p (count + 1) sdus

abbrev pub WritesEachCount : Type 0
WritesEachCount = (s : Sending) (r : Receiving) (events : List Event) → SrbPdcpBeginAlike s r
    → AreGiven (srb_pdcp_outset s r) events
    → (run_srb_pdcp events (srb_pdcp_outset s r)).stream
    ≡ written_from s.protection s.next (run_srb_pdcp events (srb_pdcp_outset s r)).sdus

-- ---- as it is read

-- octets are found to be those of a COUNT, and open to an SDU, as their MAC-I agrees; it goes up,
-- and the next COUNT is expected
pub record AreReadAs (r : Receiving) (octets : List ℕ) (count : ℕ) (sdu : List ℕ) : Type 0 where
  pub heard_as : heard r.kind octets ≡ Data (count % 32) octets
  pub found : r.next + above r (count % 32) ≡ count
  pub opens : opened_at r (above r (count % 32)) octets ≡ Sdu sdu
  pub answer : got r octets Arrived ≡ answers.Up
  pub left : arrived r octets Arrived ≡ record r { next = count + 1; ready = r.ready ++ sdu ∷ [] }

-- the next PDU is that of the SDU at its place, and read so
pub record IsReadNext (f : Flow) : Type 0 where
  pub x : Next
  pub at : slice_get f.stream f.passed ≡ Some x
  pub sdu : List ℕ
  pub some : sdu ≢ []
  pub taken : slice_get f.sdus f.passed ≡ Some sdu
  pub octets : x.octets ≡ pdu Srb f.sender.protection (f.first + f.passed) sdu
  pub read : AreReadAs f.receiver x.octets (f.first + f.passed) sdu

abbrev pub ReadsEachCount : Type 0
ReadsEachCount = (s : Sending) (r : Receiving) (events : List Event) → SrbPdcpBeginAlike s r
    → AreGiven (srb_pdcp_outset s r) events
    → (run_srb_pdcp events (srb_pdcp_outset s r)).passed < length
    (run_srb_pdcp events (srb_pdcp_outset s r)).stream
    → IsReadNext (run_srb_pdcp events (srb_pdcp_outset s r))

-- ---- what goes up

-- as many of the SDUs that were taken as RLC handed up PDUs, from the first on; the receiver
-- expects the COUNT of the next, and holds nothing
pub record IsTheFront (f : Flow) : Type 0 where
  pub delivered : f.up ++ f.receiver.ready ≡ take f.passed f.sdus
  pub next : f.receiver.next ≡ f.first + f.passed
  pub none_held : f.receiver.held ≡ []

abbrev pub DeliversTheFront : Type 0
DeliversTheFront = (s : Sending) (r : Receiving) (events : List Event) → SrbPdcpBeginAlike s r
    → AreGiven (srb_pdcp_outset s r) events → IsTheFront (run_srb_pdcp events (srb_pdcp_outset s r))

-- ---- of what was submitted

abbrev pub submits : Call → List (List ℕ)
submits (Submit sdu) = sdu ∷ []
submits Take = []
submits (Confirm place) = []
submits (Report fms bitmap) = []
submits (Owe report) = []
submits Tick = []
submits Late = []

abbrev pub submitted_in : List Event → List (List ℕ)
submitted_in [] = []
submitted_in (Sends c ∷ es) = submits c ++ submitted_in es
submitted_in (HandUp ∷ es) = submitted_in es
submitted_in (Raise ∷ es) = submitted_in es

abbrev pub TakesAll : Type 0
TakesAll = (s : Sending) (r : Receiving) (events : List Event) → SrbPdcpBeginAlike s r
    → AreGiven (srb_pdcp_outset s r) events
    → (run_srb_pdcp events (srb_pdcp_outset s r)).sdus
    ++ queue (run_srb_pdcp events (srb_pdcp_outset s r)).sender ≡ submitted_in events
