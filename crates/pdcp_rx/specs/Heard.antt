-- What a PDU says to the bearer that it comes to (TS 36.323 5.1.2).
use Rattle.std.specs.Prelude.{◌<◌, ℕ, ◌^◌, List, Result, Ok, Err}
use Rattle.pdcp_pdu.specs.declared.PdcpKind.{PdcpKind}
use Rattle.pdcp_pdu.specs.declared.PdcpKind.TheVariants.{Srb, Um, Am}
use Rattle.pdcp_pdu.specs.declared.PdcpRefusal.{PdcpRefusal}
use Rattle.pdcp_pdu.specs.Pdus.{UserPdu, SrbPdu, Sdu, Report}
use Rattle.pdcp_pdu.specs.Reading.{user_at, srb_at}
use Rattle.pdcp_rx.specs.declared.reading.Read.{Read}
use Rattle.pdcp_rx.specs.declared.reading.Read.TheVariants as reads
use Rattle.pdcp_rx.specs.Opening.{IsLong}

-- What a PDU says.
pub data Heard : Type 0 where
  Bad : PdcpRefusal → Heard  -- it can't be read
  Told : ℕ → List ℕ → Heard  -- a status report
  Data : ℕ → List ℕ → Heard  -- SN, and what is to be opened

abbrev pub heard_user : Result UserPdu PdcpRefusal → Heard
heard_user (Err refusal) = Bad refusal
heard_user (Ok (Sdu sn text)) = Data sn text
heard_user (Ok (Report fms bits)) = Told fms bits

abbrev pub heard_srb : List ℕ → Result SrbPdu PdcpRefusal → Heard
heard_srb pdu (Err refusal) = Bad refusal
heard_srb pdu (Ok srb) = Data srb.sn pdu

unfoldable pub heard : PdcpKind → List ℕ → Heard
heard Srb pdu = heard_srb pdu (srb_at pdu)
heard (Um bits) pdu = heard_user (user_at bits pdu)
heard (Am bits) pdu = heard_user (user_at bits pdu)

-- what the code read
abbrev pub heard_as : Read → Heard
heard_as (reads.Report fms bitmap) = Told fms bitmap.now
heard_as (reads.Data sn body) = Data sn body.now

-- its SN has no more bits than there are
abbrev pub IsBelow : ℕ → Read → Type 0
IsBelow bits (reads.Report fms bitmap) = Unit {0}
IsBelow bits (reads.Data sn body) = sn < 2 ^ bits

-- it is long enough to be opened
abbrev pub IsReadLong : PdcpKind → Read → Type 0
IsReadLong kind (reads.Report fms bitmap) = Unit {0}
IsReadLong kind (reads.Data sn body) = IsLong kind body.now
