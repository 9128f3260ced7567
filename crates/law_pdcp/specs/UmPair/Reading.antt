-- Which COUNT each PDU is written with, and that it is read as this COUNT (TS 36.323 5.1.1,
-- 5.1.2.1.3).
use Rattle.std.specs.Prelude.{◌≡◌, ◌≢◌, ℕ, ◌+◌, ◌<◌, ◌≤◌, ◌^◌, List, [], ◌∷◌, ◌++◌, Some, slice_get}
use Rattle.pdcp_pdu.specs.declared.PdcpKind.{PdcpKind}
use Rattle.pdcp_pdu.specs.declared.PdcpKind.TheVariants.{Um}
use Rattle.pdcp_pdu.specs.Kinds.{IsKind}
use Rattle.pdcp_sec.specs.Protection.{Protection}
use Rattle.pdcp_tx.specs.declared.sender.Next.{Next}
use Rattle.pdcp_tx.specs.Pdus.{pdu}
use Rattle.pdcp_rx.specs.declared.got.Cause.{Cause}
use Rattle.pdcp_rx.specs.declared.got.Got.TheVariants as answers
use Rattle.pdcp_rx.specs.declared.security.Opened.TheVariants.{Sdu}
use Rattle.pdcp_rx.specs.Heard.{Data, heard}
use Rattle.pdcp_rx.specs.State.{State as Receiving, above, opened_at, got, arrived}
use Rattle.law_pdcp.specs.UmPair.Flow.{Flow, Event, HandUp, run_um_pdcp, um_pdcp_outset, IsLater}
use Rattle.law_pdcp.specs.UmPair.Flow.{IsGiven, AreGiven}
use Rattle.law_pdcp.specs.UmPair.Flow.{left_out, IsShort, AreShort}

-- ---- as it is written

-- the PDU at a place is that of the SDU at this place among those that were taken in this life, and
-- its COUNT lies so far above the first one
pub record IsWritten (first earlier : ℕ) (sdus : List (List ℕ)) (kind : PdcpKind) (p : Protection)
    (place : ℕ) (x : Next) : Type 0 where
  pub sdu : List ℕ
  pub some : sdu ≢ []
  pub taken : slice_get sdus (earlier + place) ≡ Some sdu
  pub count : x.count ≡ Some (first + place)
  pub octets : x.octets ≡ pdu kind p (first + place) sdu

abbrev pub AreWritten : Flow → Type 0
AreWritten f = (place : ℕ) (x : Next) → slice_get f.stream place ≡ Some x
    → IsWritten f.first f.earlier f.sdus f.sender.kind f.sender.protection place x

-- whatever is lost
abbrev pub WritesEachCount : Type 0
WritesEachCount = (bits : ℕ) (p : Protection) (first : ℕ) (events : List Event) → first ≤ 2 ^ 32
    → AreGiven (um_pdcp_outset bits p first) events
    → AreWritten (run_um_pdcp events (um_pdcp_outset bits p first))

-- ---- as it is read

-- octets are found to be those of a COUNT, which open to an SDU; it goes up, and the next COUNT is
-- expected
pub record AreReadAs (r : Receiving) (octets : List ℕ) (cause : Cause) (count : ℕ)
    (sdu : List ℕ) : Type 0 where
  pub sn : ℕ
  pub body : List ℕ
  pub heard_as : heard r.kind octets ≡ Data sn body
  pub found : r.next + above r sn ≡ count
  pub opens : opened_at r (above r sn) body ≡ Sdu sdu
  pub answer : got r octets cause ≡ answers.Up
  pub left : arrived r octets cause ≡ record r { next = count + 1; ready = r.ready ++ sdu ∷ [] }

-- the PDU at a place is read as the COUNT that it was written with, and opens to its SDU
pub record IsReadAt (f : Flow) (cause : Cause) (place : ℕ) : Type 0 where
  pub x : Next
  pub at : slice_get f.stream place ≡ Some x
  pub written : IsWritten f.first f.earlier f.sdus f.sender.kind f.sender.protection place x
  pub read : AreReadAs f.receiver x.octets cause (f.first + place) written.sdu

-- where the losses are short, also that before it
abbrev pub ReadsEachCount : Type 0
ReadsEachCount =
    (bits : ℕ) (p : Protection) (first : ℕ) (events : List Event) (cause : Cause) (place : ℕ)
    → IsKind (Um bits) → first ≤ 2 ^ 32
    → AreGiven (um_pdcp_outset bits p first) events → AreShort (um_pdcp_outset bits p first) events
    → IsGiven (run_um_pdcp events (um_pdcp_outset bits p first)) (HandUp cause place)
    → IsShort (run_um_pdcp events (um_pdcp_outset bits p first)) (HandUp cause place)
    → IsReadAt (run_um_pdcp events (um_pdcp_outset bits p first)) cause place

-- it is taken for one of a lower COUNT
pub record IsMisread (f : Flow) (place : ℕ) : Type 0 where
  pub x : Next
  pub at : slice_get f.stream place ≡ Some x
  pub sn : ℕ
  pub body : List ℕ
  pub heard_as : heard f.receiver.kind x.octets ≡ Data sn body
  pub found : f.receiver.next + above f.receiver sn < f.first + place

-- and so is the first one before which the loss isn't short
abbrev pub MisreadsOthers : Type 0
MisreadsOthers = (bits : ℕ) (p : Protection) (first : ℕ) (events : List Event) (place : ℕ)
    → IsKind (Um bits) → first ≤ 2 ^ 32
    → AreGiven (um_pdcp_outset bits p first) events → AreShort (um_pdcp_outset bits p first) events
    → IsLater (run_um_pdcp events (um_pdcp_outset bits p first)) place
    → 2 ^ bits ≤ left_out (run_um_pdcp events (um_pdcp_outset bits p first)) place
    → IsMisread (run_um_pdcp events (um_pdcp_outset bits p first)) place
