-- What the PDUs of an acknowledged flow tell, as they are written and as they come (TS 36.322
-- 6.2.1.4, 6.2.1.5).
use Rattle.std.specs.Prelude.{ℕ, List, [], ◌%◌, ◌==◌, if◌then◌else◌, ◌∷◌, ◌++◌, length, ◌+◌, ◌-◌}
use Rattle.std.specs.Prelude.{Result, Ok, Err}
use Rattle.law_words.specs.Stretches.{Stretch}
use Rattle.rlc_pdu.specs.Pdus.{AmdPdu, AcknowledgedPdu, Payload, Status}
use Rattle.rlc_am_rx_window.specs.Piece.{octets_in, so_of}
use Rattle.rlc_pdu.specs.declared.fault.RlcRefusal.{RlcRefusal}
use Rattle.rlc_pdu.specs.Reading.{am_at}
use Rattle.rlc_pdu.specs.declared.constants.TheConstants.{AM_MODULUS}

-- the octets of a PDU that the sender writes, and of one that comes to the receiver
pub data Passing : Type 0 where
  Writes : List ℕ → Passing
  Comes : List ℕ → Passing

-- how many octets the data field of each number has, and what of these fields has come
pub record Told : Type 0 where
  pub fields : List ℕ
  pub came : List Stretch

abbrev pub nothing_told : Told
nothing_told = record { fields = []; came = [] }

-- a data PDU is new where its SN is that of the next number
abbrev pub with_field : AmdPdu → Told → Told
with_field pdu t =
    if pdu.sn == length t.fields % AM_MODULUS
    then record t { fields = t.fields ++ octets_in pdu.elements ∷ [] }
    else t

-- the last of so many numbers that has an SN
abbrev pub last_with : ℕ → ℕ → ℕ
last_with sn count = count - 1 - (count + (AM_MODULUS - 1) - sn) % AM_MODULUS

abbrev pub stretch_of : AmdPdu → ℕ → Stretch
stretch_of pdu count =
    record {
      number = last_with pdu.sn count;
      from = so_of pdu.segment;
      size = octets_in pdu.elements;
    }

abbrev pub with_stretch : AmdPdu → Told → Told
with_stretch pdu t = record t { came = stretch_of pdu (length t.fields) ∷ t.came }

-- a STATUS tells nothing of this direction
abbrev pub written_as : Result AcknowledgedPdu RlcRefusal → Told → Told
written_as (Ok (Payload pdu)) t = with_field pdu t
written_as (Ok (Status pdu)) t = t
written_as (Err refused) t = t

abbrev pub come_as : Result AcknowledgedPdu RlcRefusal → Told → Told
come_as (Ok (Payload pdu)) t = with_stretch pdu t
come_as (Ok (Status pdu)) t = t
come_as (Err refused) t = t

abbrev pub with_passing : Passing → Told → Told
with_passing (Writes octets) t = written_as (am_at octets) t
with_passing (Comes octets) t = come_as (am_at octets) t

abbrev pub with_passings : List Passing → Told → Told
with_passings [] t = t
with_passings (p ∷ ps) t = with_passings ps (with_passing p t)
