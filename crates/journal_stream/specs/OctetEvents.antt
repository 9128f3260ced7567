-- What becomes of the octets of an acknowledged flow in one life, at its sender (TS 36.322
-- 5.1.3.1.1, 5.2.1).
use Rattle.std.specs.Prelude.{ℕ, ◌≡◌, List, [], ◌∷◌, ◌++◌, length, slice_index_or}

pub data OctetEvent : Type 0 where
  -- RLC takes a PDU of PDCP
  PduTaken : List ℕ → OctetEvent
  -- the sender writes the next number, with these octets in its data field
  FieldWritten : List ℕ → OctetEvent

-- A history lists the events of the life so far, the latest first.

-- the stream: the PDUs one behind the other
abbrev pub stream : List OctetEvent → List ℕ
stream [] = []
stream (PduTaken pdu ∷ es) = stream es ++ pdu
stream (FieldWritten field ∷ es) = stream es

-- the data fields of the numbers, that of 0 first
abbrev pub fields : List OctetEvent → List (List ℕ)
fields [] = []
fields (PduTaken pdu ∷ es) = fields es
fields (FieldWritten field ∷ es) = fields es ++ field ∷ []

-- and their octets one behind the other
abbrev pub written : List OctetEvent → List ℕ
written [] = []
written (PduTaken pdu ∷ es) = written es
written (FieldWritten field ∷ es) = written es ++ field

-- these octets of the stream come next, behind those that were written
pub record AreNext (es : List OctetEvent) (octets : List ℕ) : Type 0 where
  pub rest : List ℕ
  pub stream_is : stream es ≡ written es ++ octets ++ rest

-- these octets stand in the data field of a number, from a place on
pub record AreOf (es : List OctetEvent) (number from : ℕ) (octets : List ℕ) : Type 0 where
  pub before : List ℕ
  pub behind : List ℕ
  pub field_is : slice_index_or (fields es) number [] ≡ before ++ octets ++ behind
  pub from_is : length before ≡ from

-- each number was written with the octets that came next
abbrev pub AreSent : List OctetEvent → Type 0
AreSent [] = Unit {0}
AreSent (PduTaken pdu ∷ es) = AreSent es
AreSent (FieldWritten field ∷ es) = AreNext es field × AreSent es
