-- RLC PDUs as C sees them (TS 36.322 6.2.1), what is meant by them, and what calls answer.
use Rattle.std.specs.Prelude.{◌≡◌, ℕ, ◌<◌, ◌^◌, ◌==◌, ◌&&◌, ◌||◌, nat_lt, nat_le, not, Bool}
use Rattle.std.specs.Prelude.{true, false, List, [], ◌∷◌, length, map, Option, None, Some}
use Rattle.std.specs.Prelude.{Result, Ok, Err, if◌then◌else◌}
use Rattle.std.specs.List.{list_all}
use Rattle.rlc_pdu.specs.declared.fault.RlcRefusal.{RlcRefusal}
use Rattle.rlc_pdu.specs.declared.fault.RlcWhy.{RlcWhy}
use Rattle.rlc_pdu.specs.declared.fault.RlcWhy.TheVariants as why
use Rattle.rlc_pdu.specs.declared.pdu.Segment.{Segment}
use Rattle.rlc_pdu.specs.declared.pdu.Nack.{Nack}
use Rattle.rlc_pdu.specs.Pdus.{UmdPdu, AmdPdu, AcknowledgedPdu, Payload, Status}
use Rattle.rlc_pdu.specs.Reading.{umd_at, am_at}
use Rattle.rlc_pdu.specs.Status.{status_size}
use Rattle.rlc_pdu.specs.Writing.{umd_canonical, amd_canonical}
use Rattle.l2_bits.specs.declared.limits.TheConstants.{OCTETS_LIMIT}
use Rattle.l2_c.specs.Answers.{in_range, room_answer}
use Rattle.c_answers.specs.declared.TheConstants.{REFUSED}
use Rattle.l2_c.specs.declared.mac.PlainRefusal.{PlainRefusal}
use Rattle.l2_c.specs.declared.rlc.PlainRlc.{PlainRlc}
use Rattle.l2_c.specs.declared.rlc.PlainElement.{PlainElement}
use Rattle.l2_c.specs.declared.rlc.PlainNack.{PlainNack}
use Rattle.l2_c.specs.declared.rlc.TheConstants.{UMD, AMD, SEGMENT, STATUS}

-- the reason of a number
abbrev pub why_seen : ℕ → RlcWhy
why_seen n =
    if n == 1 then why.Short
    else if n == 2 then why.ZeroLi
    else if n == 3 then why.LiPast
    else if n == 4 then why.EmptyData
    else if n == 5 then why.ReservedCpt
    else if n == 6 then why.SoBackwards
    else why.Trailing

abbrev pub refusal_seen : PlainRefusal → RlcRefusal
refusal_seen refusal = record { at = refusal.at; why = why_seen refusal.why }

-- the octets of an element
abbrev pub element_seen : PlainElement → List ℕ
element_seen element = element.octets.now

-- the entry of a STATUS that is seen
abbrev pub nack_seen : PlainNack → Nack
nack_seen nack = record {
  sn = nack.sn;
  part = if nack.has_part == 1 then Some (record { start = nack.start; end = nack.end }) else None;
}

-- what is seen of a segment
abbrev pub segment_seen : PlainRlc → Option Segment
segment_seen header =
    if header.kind == SEGMENT then Some (record { last = header.last == 1; so = header.so })
    else None

-- the PDUs that are seen
abbrev pub umd_seen : PlainRlc → List PlainElement → UmdPdu
umd_seen header elements =
    record { sn = header.sn; fi = header.fi; elements = map element_seen elements }

abbrev pub amd_seen : PlainRlc → List PlainElement → AmdPdu
amd_seen header elements = record {
  sn = header.sn;
  poll = header.poll == 1;
  fi = header.fi;
  segment = segment_seen header;
  elements = map element_seen elements;
}

abbrev pub am_seen : PlainRlc → List PlainElement → List PlainNack → AcknowledgedPdu
am_seen header elements nacks =
    if header.kind == STATUS then Status (record { ack = header.sn; nacks = map nack_seen nacks })
    else Payload (amd_seen header elements)

-- a header that C sees is that of an AMD PDU, or of a segment
pub record IsFramed (sn : ℕ) (poll : Bool) (fi : ℕ) (segment : Option Segment) (header : PlainRlc)
    : Type 0 where
  pub payload : (header.kind == STATUS) ≡ false
  pub number : header.sn ≡ sn
  pub poll_is : (header.poll == 1) ≡ poll
  pub framing : header.fi ≡ fi
  pub segment_is : segment_seen header ≡ segment

-- ---- what may be written

-- the elements of a data PDU: one or more, none empty, and each but the last has a length indicator
abbrev pub elements_fit : List (List ℕ) → Bool
elements_fit [] = false
elements_fit (e ∷ []) = not (length e == 0) && nat_lt (length e) OCTETS_LIMIT
elements_fit (e ∷ f ∷ es) =
    (not (length e == 0) && nat_lt (length e) (2 ^ 11)) && elements_fit (f ∷ es)

-- each element has fewer than 2^28 octets
abbrev pub AreShort : List (List ℕ) → Type 0
AreShort [] = Unit {0}
AreShort (e ∷ es) = (length e < OCTETS_LIMIT) × AreShort es

-- a number below so many, and framing info of two bits
abbrev pub header_fits : PlainRlc → ℕ → Bool
header_fits header numbers = nat_lt header.sn numbers && nat_lt header.fi 4

abbrev pub umd_fits : ℕ → PlainRlc → Bool
umd_fits bits header =
    if bits == 5 then (header.kind == UMD) && header_fits header 32
    else if bits == 10 then (header.kind == UMD) && header_fits header 1024
    else false

abbrev pub amd_fits : PlainRlc → Bool
amd_fits header = (header_fits header 1024 && nat_lt header.poll 2)
    && (if header.kind == AMD then true
    else if header.kind == SEGMENT then nat_lt header.last 2 && nat_lt header.so 32768
    else false)

abbrev pub nack_fits : PlainNack → Bool
nack_fits nack = nat_lt nack.sn 1024
    && (if nack.has_part == 0 then true
    else if nack.has_part == 1 then nat_le nack.start nack.end && nat_lt nack.end 32768
    else false)

abbrev pub nacks_fit : List PlainNack → Bool
nacks_fit nacks = list_all nack_fits nacks

-- ---- answers

abbrev pub is_um_bits : ℕ → Bool
is_um_bits bits = (bits == 5) || (bits == 10)

abbrev pub umd_answer : Result UmdPdu RlcRefusal → ℕ → ℕ
umd_answer (Err refused) room = REFUSED
umd_answer (Ok pdu) room = room_answer (length pdu.elements) room

abbrev pub umd_read_answer : ℕ → List ℕ → ℕ → ℕ
umd_read_answer bits pdu room =
    in_range (is_um_bits bits && nat_lt (length pdu) OCTETS_LIMIT)
    (umd_answer (umd_at bits pdu) room)

abbrev pub am_answer : Result AcknowledgedPdu RlcRefusal → ℕ → ℕ → ℕ
am_answer (Err refused) room nack_room = REFUSED
am_answer (Ok (Payload pdu)) room nack_room = room_answer (length pdu.elements) room
am_answer (Ok (Status pdu)) room nack_room = room_answer (length pdu.nacks) nack_room

abbrev pub am_read_answer : List ℕ → ℕ → ℕ → ℕ
am_read_answer pdu room nack_room =
    in_range (nat_lt (length pdu) OCTETS_LIMIT) (am_answer (am_at pdu) room nack_room)

abbrev pub umd_write_answer : ℕ → PlainRlc → List PlainElement → ℕ → ℕ
umd_write_answer bits header elements room =
    in_range (umd_fits bits header && elements_fit (map element_seen elements))
    (room_answer (length (umd_canonical bits (umd_seen header elements))) room)

abbrev pub amd_write_answer : PlainRlc → List PlainElement → ℕ → ℕ
amd_write_answer header elements room =
    in_range (amd_fits header && elements_fit (map element_seen elements))
    (room_answer (length (amd_canonical (amd_seen header elements))) room)

abbrev pub status_write_answer : ℕ → List PlainNack → ℕ → ℕ
status_write_answer ack nacks room = in_range (nat_lt ack 1024 && nacks_fit nacks)
    (room_answer (status_size (map nack_seen nacks)) room)
