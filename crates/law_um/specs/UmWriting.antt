-- A new PDU of an unacknowledged sender, as a run reckons it from its records and as its history
-- tells it (docs/laws/ACCOUNT.md; TS 36.322 5.1.2.1.1, 6.2.1.3, 6.2.2.6).
use Rattle.std.specs.Prelude.{◌≡◌, ℕ, ◌+◌, ◌^◌, ◌<◌, true, List, [], length, Option, Some}
use Rattle.rlc_pdu.specs.Pdus.{UmdPdu}
use Rattle.rlc_um.specs.Joined.{parts_of}
use Rattle.rlc_um.specs.Sender.{Sender, turn, Gives}
use Rattle.rlc_am_rx_window.specs.Piece.{begins_in, ends_in}
use Rattle.um_losses.specs.declared.flow.Happening.TheVariants.{PduWritten}
use Rattle.um_losses.specs.declared.pdu.Pdu.{Pdu}
use Rattle.um_losses.specs.Flow.{Flow, after}
use Rattle.um_losses.specs.Pdus.{is_pdu}
use Rattle.um_losses.specs.Sending.{Sending, nothing_written}
use Rattle.um_losses.specs.Tags.{tagged}
use Rattle.journal_account.specs.FlowEvents.{FlowEvent, next_of}
use Rattle.journal_um.specs.declared.pieces.Piece.{Piece}
use Rattle.journal_flows.specs.UmPdus.{place_next, pieces_from}
use Rattle.law_um.specs.UmReceiving.{SameOctets, CarryAlike}
use Rattle.law_um.specs.UmLossesTold.{EndsWithTag}
use Rattle.law_um.specs.UmSending.{IsUmSenderOf, shown, with_pdu}

-- ---- what was written

-- the number that is written next, and the place of the SDU that goes on with it or begins
pub record IsReckoned (s : Sending) (es : List FlowEvent) : Type 0 where
  pub number : s.sent ≡ next_of es
  pub place : s.ended ≡ place_next es

abbrev pub WritingBegins : Type 0
WritingBegins = IsReckoned nothing_written []

abbrev pub WritingIsReckoned : Type 0
WritingIsReckoned =
    (es : List FlowEvent) (s : Sender) (size process : ℕ) (held : Option ℕ) (f : Flow)
    → turn s size held ≡ Gives → IsUmSenderOf es s → is_pdu f.bits (shown s size) ≡ true
    → IsReckoned f.sending es
    → IsReckoned (after (PduWritten process (shown s size)) f).sending (with_pdu s size es)

-- ---- its pieces

abbrev pub fields : UmdPdu → Pdu
fields pdu = record { sn = pdu.sn; fi = pdu.fi; elements = length pdu.elements }

abbrev pub pieces_of : ℕ → UmdPdu → List Piece
pieces_of place pdu = pieces_from place (begins_in pdu.fi) (ends_in pdu.fi) pdu.elements

-- a receiver keeps them, octets or tags, as the history has them with the place of the first
pub record PiecesAreKept (place : ℕ) (pdu : UmdPdu) : Type 0 where
  pub octets : CarryAlike SameOctets (parts_of pdu) (pieces_of place pdu)
  pub tags : place + length pdu.elements < 2 ^ 64
      → CarryAlike EndsWithTag (parts_of (tagged (Some place) (fields pdu))) (pieces_of place pdu)

abbrev pub PdusKeepPieces : Type 0
PdusKeepPieces = (place : ℕ) (pdu : UmdPdu) → pdu.fi < 4 → PiecesAreKept place pdu
